-- The numbers of refusals, as document 01 and the change requests give them.
use Rattle.std.specs.Prelude.{ℕ}
use Rattle.spec_bytes.specs.declared.refusal.Refusal.{Refusal}
use Rattle.spec_bytes.specs.declared.refusal.Refusal.TheVariants.{PointerSize, SectionTooLong, BadHeader, BadStrings, BadRecord}
use Rattle.spec_bytes.specs.declared.refusal.Refusal.TheVariants.{BadReference, PrototypeHeld, Loop, WorkShort, NoSuchId, SessionClosed}
use Rattle.spec_bytes.specs.declared.refusal.Refusal.TheVariants.{TooDeep, Cycle, NamelessTypedef, AlignmentZero, Overflow, TextFull}
use Rattle.spec_bytes.specs.declared.refusal.Refusal.TheVariants.{Misplaced, NoDeclaration, NoField, CeilingPassed, OutputShort}

abbrev pub refusal_number : Refusal → ℕ
refusal_number PointerSize = 1
refusal_number SectionTooLong = 2
refusal_number BadHeader = 3
refusal_number BadStrings = 4
refusal_number BadRecord = 5
refusal_number BadReference = 6
refusal_number PrototypeHeld = 7
refusal_number Loop = 8
refusal_number WorkShort = 9
refusal_number NoSuchId = 10
refusal_number SessionClosed = 11
refusal_number TooDeep = 12
refusal_number Cycle = 13
refusal_number NamelessTypedef = 14
refusal_number AlignmentZero = 15
refusal_number Overflow = 16
refusal_number TextFull = 17
refusal_number Misplaced = 18
refusal_number NoDeclaration = 19
refusal_number NoField = 21
refusal_number CeilingPassed = 22
refusal_number OutputShort = 23
