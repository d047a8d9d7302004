-- What a caller has of the calls, and lists of calls. The demands are stated over any such calls, so that what the calls do inside is no
-- part of them.
use Rattle.std.specs.Prelude.{ℕ, zero, suc, ◌+◌, ◌≤◌, ◌≡◌, Bool, ◌||◌, List, [], ◌∷◌, ◌++◌, eqb, length, take}
use Rattle.spec_bytes.specs.words.Words.{pick, words}
use Rattle.spec_c_dumper.specs.rules.Machine.{Req, one, all}

-- R: the record that opening is lent. C: what a call leaves, from which the next one is called.
pub record Calls (R C : Type 0) : Type 0 where
  -- the record is long enough to be opened in
  pub fits : R → Bool
  -- record, section, pointer size, modes, work, text
  pub opening : R → List ℕ → ℕ → ℕ → List ℕ → List ℕ → C
  -- "one request and one request for all ids", and one for a list of ids as bytes: "the section as at opening, the record and work words
  -- as the call before it (at first, opening) left them", and a text
  pub request : C → List ℕ → List ℕ → ℕ → C
  pub request_all : C → List ℕ → List ℕ → C
  pub request_list : C → List ℕ → List ℕ → List ℕ → C
  -- of the answer, number ("Success is number 0") and value
  pub number : C → ℕ
  pub value : C → ℕ
  -- what is left in the record, the work and the text slice
  pub leaves : C → R
  pub work : C → List ℕ
  pub text : C → List ℕ
  -- "the text length last returned"; whether the session is open
  pub len : C → ℕ
  pub is_open : C → Bool

-- ids as bytes, four a number, least significant first; no list has more than 4,294,967,295 of them
unfoldable pub ids_in : List ℕ → List ℕ
ids_in b = take 4294967295 (words b)

-- the first n ids as single requests, on a text slice of so many bytes
unfoldable pub singles : ℕ → ℕ → List ℕ → List Req
singles room zero ids = []
singles room (suc n) [] = []
singles room (suc n) (id ∷ ids) = one room id ∷ singles room n ids

module _ {R C : Type 0} (K : Calls R C) where
  -- "a text slice of any length that begins with the text so far"
  pub record Lent (c : C) (text : List ℕ) : Type 0 where
    pub long : K.len c ≤ length text
    pub begins : take (K.len c) text ≡ take (K.len c) (K.text c)

  -- "Left as it was": record, work and text
  pub record Untouched (c : C) (r : R) (work text : List ℕ) : Type 0 where
    pub same_record : K.leaves c ≡ r
    pub same_work : K.work c ≡ work
    pub same_text : K.text c ≡ text

  -- how many single requests a list counts as: those that it makes, "up to and including a refused one, and [..] none where it gives 11"
  unfoldable pub made : C → ℕ
  made c = K.value c + pick (eqb (K.number c) 0 || eqb (K.number c) 11) 0 1

  -- pointer size, modes, section and length of the work, as at opening
  module _ (pointer modes : ℕ) (s : List ℕ) (n : ℕ) where
    -- "The list, perhaps empty, starts at a successful opening with any settings and holds single requests and requests for all ids, in
    -- any order and with any ids", and lists of ids. c is what the last call left, after these requests, each with the length of the text
    -- slice that it was lent.
    pub data After : C → List Req → Type 0 where
      opened : (r : R) (work text : List ℕ) → length work ≡ n → K.number (K.opening r s pointer modes work text) ≡ 0
          → After (K.opening r s pointer modes work text) []
      then_one : (c : C) (rs : List Req) → After c rs → (text : List ℕ) → Lent c text → (id : ℕ)
          → After (K.request c s text id) (rs ++ (one (length text) id ∷ []))
      then_all : (c : C) (rs : List Req) → After c rs → (text : List ℕ) → Lent c text
          → After (K.request_all c s text) (rs ++ (all (length text) ∷ []))
      then_list : (c : C) (rs : List Req) → After c rs → (text : List ℕ) → Lent c text → (ids : List ℕ)
          → After (K.request_list c s text ids) (rs ++ singles (length text) (made (K.request_list c s text ids)) (ids_in ids))
