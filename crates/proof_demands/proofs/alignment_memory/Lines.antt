-- Of a work whose memory is right, a line by the remembering way says what the plain one says, and leaves a memory that is right. Assumes nothing.
use Prim.Native.Nat.{ℕ, ◌*◌, ◌/◌, ◌≤◌}
use mathlib.Core.Path.{◌≡◌, refl, ap, ◌∙◌, sym, subst}
use mathlib.Core.Bool.{Bool, true, false}
use mathlib.Core.List.{List}
use lib.Dec.{ltb}
use Rattle.spec_bytes.specs.text.Text.{Text}
use Rattle.spec_c_dumper.specs.rules.Writer.{Said, said, said_text, said_names, said_held}
use Rattle.spec_c_dumper.specs.rules.Types.{Btf as Rules}
use Rattle.spec_c_dumper.specs.rules.Emit.{definition, forward}
use Rattle.spec_c_dumper.proofs.rules.Related.{RelAll, RelSaid, same, rel_text, rel_names, rel_held, rel_each}
use Rattle.spec_type_table.specs.declared.types.TypeTable.{TypeTable}
use Rattle.spec_type_table.specs.Table.{work_naming}
use Rattle.spec_c_dumper.specs.alignment_once.Once.{Known, paid_to}
use Rattle.spec_c_dumper.specs.alignment_once.Writers.{definition_once, forward_once}
use Rattle.spec_c_dumper.proofs.alignment_once.Session.{same_definition, same_forward}
use Rattle.btf_layout.specs.remembered.Words.{seen_word, decoded, work_keep}
use Rattle.btf_layout.specs.asked.Asked.{work_asks}
use Rattle.proof_demands.specs.alignment_memory.Work.{Agree, SoundMemory, Sane}
use Rattle.proof_demands.proofs.alignment_memory.Work.{Memory, InWork, work_sound}

-- ---- what is said, by its parts
pub both_said : {U W : Type 0} (R : U → W → Type 0) (s₁ : Said U) (s₂ : Said W) → R (said_names s₁) (said_names s₂) → said_text s₁ ≡ said_text s₂ → RelAll R (said_held s₁) (said_held s₂)
    → RelSaid R s₁ s₂
unfolding said_names said_text said_held
both_said R (said u x k) (said w y m) r e p = subst (λ (z : Text). RelSaid R (said u x k) (said w z m)) e (same u w x k m r p)

-- what writes other words than the memory's keeps it
module _ (B : Rules) (w w₂ : List ℕ) (h : Memory w₂ w) where
  recall_same : (id : ℕ) → (work_keep B.type_cnt B).recall w₂ id ≡ (work_keep B.type_cnt B).recall w id
  unfolding work_keep seen_word
  recall_same id = ap (λ (x : ℕ). decoded (elim (ltb id B.type_cnt) as (λ (b : Bool). ℕ) [ true ↦ x | false ↦ 0 ])) (h.aligned id)

  pub memory_kept : SoundMemory B w → SoundMemory B w₂
  memory_kept m = record {
    right = λ id s e. m.right id s (sym (recall_same id) ∙ e);
    roomy = subst (λ (x : ℕ). B.type_cnt * 16 ≤ x / 4) (sym h.long) m.roomy;
    count = h.count ∙ m.count ∙ ap (λ (f : ℕ → Known). paid_to B f B.type_cnt) (λ i id. sym (recall_same id) i);
  }

module _ (b : TypeTable) (B : Rules) (Z : Sane b B) where
  abbrev Rel : List ℕ → List ℕ → Type 0
  Rel w u = InWork b Z.some B Z.small Z.wf Z.ends Z.few w u

  itself : (w : List ℕ) → SoundMemory B w → Rel w w
  itself w m = (record { long = refl; words = λ i n k. refl }, m.right, (m.roomy, m.count))

  -- the text, all words but the memory's, at each byte of it and after it, and the memory after it
  pub record Says (s₁ s₀ : Said (List ℕ)) : Type 0 where
    pub text : said_text s₁ ≡ said_text s₀
    pub words : Agree (said_names s₁) (said_names s₀)
    pub held : RelAll Agree (said_held s₁) (said_held s₀)
    pub memory : SoundMemory B (said_names s₁)

  says : {s₁ s₀ : Said (List ℕ)} → RelSaid Rel s₁ s₀ → Says s₁ s₀
  says r = let n = rel_names Rel r in record { text = rel_text Rel r; words = n.0; held = rel_each Rel Agree (λ w u q. q.0) (rel_held Rel r); memory = record { right = n.1; roomy = n.2.0; count = n.2.1 } }

  pub definition_says : (id : ℕ) (w : List ℕ) → SoundMemory B w → Says (definition_once (work_asks B.type_cnt B) (work_naming b) B id (B.type_by_id id) w) (definition (work_naming b) B id (B.type_by_id id) w)
  definition_says id w m =
      says (same_definition (work_asks B.type_cnt B) (work_naming b) (work_naming b) B Z.wf Z.ends Rel (work_sound b Z.some B Z.small Z.wf Z.ends Z.few) id w w (itself w m))

  pub forward_says : (id : ℕ) (w : List ℕ) → SoundMemory B w → Says (forward_once (work_asks B.type_cnt B) (work_naming b) B id (B.type_by_id id) w) (forward (work_naming b) B id (B.type_by_id id) w)
  forward_says id w m =
      says (same_forward (work_asks B.type_cnt B) (work_naming b) (work_naming b) B Z.wf Z.ends Rel (work_sound b Z.some B Z.small Z.wf Z.ends Z.few) id w w (itself w m))
