-- Ask 2, routers with big-endian kernels. Demands 1 to 3 are stated over what a section describes in the order of its magic; here is what
-- that order is. Statement only; proofs/Claims.antt has the proof.
use Rattle.std.specs.Prelude.{ℕ, ◌≡◌, false, List, get_or}
use Rattle.spec_bytes.specs.words.Words.{word_at, word_at_big}
use Rattle.spec_linux_btf.specs.Section.{is_big_endian, little_endian, word_of, header_sound}

pub record Request02 : Type 0 where
  -- "A section whose first bytes are EB 9F is read with every word most significant byte first"
  pub big : (s : List ℕ) → get_or s 0 0 ≡ 235 → get_or s 1 0 ≡ 159 → (at : ℕ) → word_of s at ≡ word_at_big s at
  -- every other one as before
  pub little : (s : List ℕ) → is_big_endian s ≡ false → (at : ℕ) → word_of s at ≡ word_at s at
  -- "Cause 3 no longer covers that magic", and covers all others but 9F EB
  pub other : (s : List ℕ) → is_big_endian s ≡ false → little_endian s ≡ false → header_sound s ≡ false
