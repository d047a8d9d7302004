-- What the options of a call say.
use Rattle.std.specs.Prelude.{ℕ, Bool, true, false, Option, Some, None}
use Rattle.session_requests.specs.declared.options.Options.{Options}
use Rattle.session_requests.specs.declared.options.Options.TheVariants.{Plain, Within, Listed}

-- a list gets entries
abbrev pub is_listed : Options → Bool
is_listed Plain = false
is_listed (Within c) = false
is_listed Listed = true

-- calls of ordering are counted
abbrev pub is_counted : Options → Bool
is_counted Plain = false
is_counted (Within c) = true
is_counted Listed = false

-- how many, at most; without a ceiling 0, which nothing reads
abbrev pub most_calls : Options → ℕ
most_calls Plain = 0
most_calls (Within c) = c
most_calls Listed = 0

abbrev pub ceiling_of : Options → Option ℕ
ceiling_of Plain = None
ceiling_of (Within c) = Some c
ceiling_of Listed = None
