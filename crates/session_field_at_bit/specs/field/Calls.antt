-- What the call comes to, for all inputs: the answer, and the lent path after it. Session, section and work are only read.
use Rattle.std.specs.Prelude.{ℕ, suc, ◌/◌, true, false, List, [], ◌∷◌, leb, ltb, length}
use Rattle.spec_bytes.specs.words.Words.{put_word}
use Rattle.spec_c_dumper.specs.rules.Writer.{Ask, got, no}
use Rattle.spec_type_table.specs.Table.{btf_of}
use Rattle.spec_session.specs.session.Answers.{Answer, Accepted, Refused}
use Rattle.spec_session.specs.declared.session.Session.{Session}
use Rattle.spec_session.specs.session.Turns.{is_current, table_for}
use Rattle.session_field_at_bit.specs.step.Path.{field_path}

pub record Found : Type 0 where
  pub answer : Answer
  pub path : List ℕ

unfoldable pub found_of : Answer → List ℕ → Found
found_of a p = record { answer = a; path = p }

-- the bytes with these words from word i on
unfoldable pub put_words : List ℕ → ℕ → List ℕ → List ℕ
put_words b i [] = b
put_words b i (v ∷ vs) = put_word (put_words b (suc i) vs) i v

-- "every refusal returns length 0 and leaves path, text and session untouched"
abbrev pub refused_by : ℕ → List ℕ → Found
refused_by number path = found_of (Refused number 0) path

-- "one word each", "its length; the rest of the lent path stays"; "17, tested last, a lent path too short for it"
unfoldable pub lent_path : List ℕ → Ask (List ℕ) → Found
lent_path path (no c) = refused_by c path
lent_path path (got p) =
    elim (leb (length p) (length path / 4)) [ true ↦ found_of (Accepted (length p)) (put_words path 0 p) | false ↦ refused_by 17 path ]

-- 11, then 10, then the walk. No text is lent, so none is shorter than the text held.
unfoldable pub field_call : Session → List ℕ → List ℕ → List ℕ → ℕ → ℕ → Found
field_call s section work path id bit =
    elim (is_current s (length section) (length work) s.text_len) [
      | false ↦ refused_by 11 path
      | true ↦ elim (ltb id s.types) [
        | false ↦ refused_by 10 path
        | true ↦ lent_path path (field_path (btf_of (table_for s section) section work) id bit)
      ]
    ]
