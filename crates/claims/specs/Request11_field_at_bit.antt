-- Ask 11, which field is this byte. Statement only; session_field_at_bit/proofs/field has the proofs.
use Rattle.std.specs.Prelude.{ℕ, ◌≤◌, ◌<◌, ◌≡◌, List, length}
use Rattle.spec_c_dumper.specs.rules.Types.{Btf}
use Rattle.spec_c_dumper.specs.rules.Writer.{got}
use Rattle.spec_session.specs.declared.session.Session.{Session}
use Rattle.spec_session.specs.session.Answers.{number_of, value_of}
use Rattle.session_field_at_bit.specs.step.Path.{field_path}
use Rattle.session_field_at_bit.specs.field.PathFrom.{PathFrom}
use Rattle.session_field_at_bit.specs.field.Calls.{field_call}

pub record Request11 : Type 0 where
  -- "return the path of members and array places [..] to the innermost plain member or bit field that covers it", and there is no other
  pub is_path : (B : Btf) (id bit : ℕ) (p : List ℕ) → field_path B id bit ≡ got p
      → PathFrom B id bit p × ((0 < length p) × (length p ≤ 512))
  pub unique : (B : Btf) (id bit : ℕ) (p q : List ℕ) → PathFrom B id bit p → PathFrom B id bit q → p ≡ q
  -- "every refusal returns length 0 and leaves path, text and session untouched"
  pub refused : (s : Session) (section work path : List ℕ) (id bit : ℕ) → (number_of (field_call s section work path id bit).answer ≡ 0 → ⊥)
      → ((field_call s section work path id bit).path ≡ path) × (value_of (field_call s section work path id bit).answer ≡ 0)
