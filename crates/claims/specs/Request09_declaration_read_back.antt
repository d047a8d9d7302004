-- Ask 9, reading a declaration back. Statement only; proof_declaration_reader/proofs has the proofs.
use Rattle.std.specs.Prelude.{ℕ, List}
use Rattle.proof_declaration_reader.specs.Enough.{Exactly}
use Rattle.proof_declaration_reader.specs.Decoding.{Decodes, Numbered, ReadsBack}

pub record Request09 : Type 0 where
  -- "For covered chains of at most 512 entries that C allows, the written text reads back to the same chain"
  pub reads_back : ReadsBack
  -- "19 when the bytes are no such declaration or its chain [..] would pass 512 entries", and only then
  pub exactly : (s : List ℕ) → Exactly s
  -- the words that the code leaves say what the reader says; "with an empty chain returned"
  pub decodes : Decodes
  pub numbered : (s t : List ℕ) → Numbered s t
