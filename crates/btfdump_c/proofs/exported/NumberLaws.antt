-- The answers of 11 and of 19, with the value 0, as numbers. Assumes nothing.
use mathlib.Core.Path.{◌≡◌, refl}
use Rattle.std.specs.Prelude.{Err}
use Rattle.spec_bytes.specs.declared.refusal.Refusal.TheVariants.{SessionClosed, NoDeclaration}
use Rattle.spec_session.specs.session.Answers.{alone, number_of, value_of}
use Rattle.session_record.specs.record_words.Words.{packed}

pub closed : packed (alone (Err SessionClosed)) ≡ 47244640256
unfolding packed number_of value_of
closed = refl

pub undeclared : packed (alone (Err NoDeclaration)) ≡ 81604378624
unfolding packed number_of value_of
undeclared = refl
