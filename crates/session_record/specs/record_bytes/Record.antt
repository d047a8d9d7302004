-- The session record after each call: the words are those of c_words/specs.
use Rattle.std.specs.Prelude.{ℕ, zero, suc, true, false, List, ltb}
use Rattle.spec_session.specs.session.Answers.{Answer, Accepted, Refused}
use Rattle.spec_session.specs.declared.session.Session.{Session}
use Rattle.session_record.specs.record_words.Words.{put_long, put_reached, encoded}

-- opening writes the record whole, and a refused opening leaves it
unfoldable pub record_opened : Answer → Session → List ℕ → List ℕ
record_opened (Accepted value) s r = encoded s r
record_opened (Refused number value) s r = r

-- a refused request: 10 and 11 change nothing, the others close the session and write the text length and the visits
unfoldable pub record_refused : ℕ → ℕ → ℕ → List ℕ → List ℕ
record_refused number len v r = elim (ltb number 12) [ true ↦ r | false ↦ put_reached (put_long r 0 0) len v ]

-- a request writes the text length and the visits
unfoldable pub record_after : Answer → ℕ → List ℕ → List ℕ
record_after (Accepted len) v r = put_reached r len v
record_after (Refused number len) v r = record_refused number len v r

-- a list writes them if an id was accepted
unfoldable pub record_longer : ℕ → ℕ → ℕ → List ℕ → List ℕ
record_longer zero len v r = r
record_longer (suc n) len v r = put_reached r len v

-- the record after a list that was stopped by this number, 0 if by none, after so many accepted ids, where the text has len bytes and v
-- visits are counted
unfoldable pub record_listed : ℕ → ℕ → ℕ → ℕ → List ℕ → List ℕ
record_listed number accepted len v r =
    elim (ltb number 12) [ true ↦ record_longer accepted len v r | false ↦ put_reached (put_long r 0 0) len v ]
