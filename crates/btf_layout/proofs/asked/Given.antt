-- An emitter that asks a question with a memory: what was found, or the refusal, after which nothing is said of the memory. Assumes nothing.
use Prim.Native.Nat.{ℕ}
use mathlib.Core.Path.{◌≡◌, refl, ap, ◌∙◌}
use mathlib.Core.List.{List, []}
use Rattle.std.specs.Prelude.{Ok}
use Rattle.spec_bytes.specs.text.Text.{cut, bytes}
use Rattle.spec_bytes.specs.text.Placed.{Placed, put_out, put_text, written}
use Rattle.spec_c_dumper.specs.rules.Writer.{Writer, stop}
use Rattle.spec_c_dumper.specs.rules.Place.{with_names, put_here, put_held, none_held, out_of, put_said}
use Rattle.spec_c_dumper.proofs.rules.Writing.{stop_only}
use Rattle.spec_c_dumper.specs.alignment_once.Once.{Once, found, refused}
use Rattle.spec_c_dumper.specs.alignment_once.Writers.{answered, given_once}
use Rattle.btf_layout.specs.remembered.Words.{forget}

module _ {U A : Type 0} where
  forgotten : (f : A → Writer U) (u : U) (x : Once U A) → answered (forget x) f u ≡ answered x f u
  unfolding answered forget
  forgotten f u (found a v k) = refl
  forgotten f u (refused c v k) = refl

  module _ (t : List ℕ) (at : ℕ) (ask : U → Once U A) (f : A → Writer U) (u u₁ : U) (r : Placed) (t' : List ℕ) where
    pub given_found : (a : A) (u' : U) → found a u₁ 0 ≡ forget (ask u) → out_of r t' u' ≡ put_said t (Ok at) (f a) u₁ → out_of r t' u' ≡ put_said t (Ok at) (given_once ask f) u
    unfolding given_once answered put_held
    given_found a u' e o = o ∙ ap (put_here none_held t at) (ap (λ (x : Once U A). answered x f u) e ∙ forgotten f u (ask u))

    -- a refusal says nothing of the state
    unsaid : (c : ℕ) → put_said t (Ok at) (stop c) u₁ ≡ put_said t (Ok at) (stop c) u
    unfolding put_held put_here stop with_names written bytes
    unsaid c = refl

    pub given_refused : (c : ℕ) → refused c u₁ 0 ≡ forget (ask u) → put_out r t' ≡ put_text t (Ok at) (cut [] c) → out_of r t' u₁ ≡ put_said t (Ok at) (given_once ask f) u
    unfolding given_once answered put_held
    given_refused c e o = stop_only _ t (Ok at) c u₁ r t' o ∙ unsaid c ∙ ap (put_here none_held t at) (ap (λ (x : Once U A). answered x f u) e ∙ forgotten f u (ask u))
