-- THE THEOREM: all that is claimed holds. Assumes nothing.
use mathlib.Core.Path.{◌≡◌, refl, ap, sym, ◌∙◌}
use mathlib.Core.Bool.{Bool, true, false, not, true≢false}
use mathlib.Core.List.Memᴰ
use mathlib.Core.List.{List, [], ◌∷◌, map, Memᴰ}
use mathlib.Core.Logic.{⊎_elim}
use lib.ListN.{length, drop, get_or, replicate}
use Prim.Native.Nat.{ℕ, zero-le}
use Rattle.spec_bytes.specs.words.Words.{word_in}
use Rattle.spec_linux_btf.specs.Section.{word_of, header_sound}
use Rattle.base_keywords.specs.table.Fixed.{table, fixed_words, occurrences}
use Rattle.base_keywords.proofs.table.Laws.{table_small, each_once}
use Rattle.spec_c_dumper.proofs.needs.Arrays.{pointers_stay, arrays_forget, array_of_itself}
use Rattle.spec_c_dumper.specs.rules.Order.{through}
use Rattle.spec_opening.specs.Causes.{cause3}
use Rattle.spec_session.proofs.metered.Claims.{type_fits, types_fits}
use Rattle.spec_session.proofs.metered.ListClaims.{list_fits}
use Rattle.proof_demands.proofs.demands.Orders.{big_header, other_magic}
use Rattle.proof_declaration_reader.proofs.Bound.{exactly}
use Rattle.proof_declaration_reader.proofs.Decoding.{decodes, numbered, reads_back}
use Rattle.proof_two_headers.proofs.Accounts.{accounts}
use Rattle.proof_two_headers.proofs.Claims.{two_headers}
use Rattle.proof_two_headers.proofs.Demands.{third_demand}
use Rattle.proof_two_headers.proofs.Reserves.{reserves}
use Rattle.proof_two_headers.proofs.Spellings.{spellings}
use Rattle.session_field_at_bit.proofs.field.Sound.{sound}
use Rattle.session_field_at_bit.proofs.field.Unique.{unique}
use Rattle.session_field_at_bit.proofs.field.Claims.{refused_leaves}
use Rattle.claims.specs.Claims.{Claims}
use Rattle.claims.specs.Request02_big_endian.{Request02}
use Rattle.claims.specs.Request04_fixed_words.{Request04}
use Rattle.claims.proofs.Demands.{session_stated, session_sound, session_opens, c_stated, c_sound, c_opens}
use Rattle.claims.proofs.Placing.{placing}
use Rattle.claims.proofs.Program.{printed}
use Rattle.claims.proofs.Declared.{declared_first}
use Rattle.claims.proofs.Once.{session_once, c_once}
use Rattle.claims.proofs.Origins.{session_reasoned}
use Rattle.claims.proofs.Cut.{session_cut}
use Rattle.claims.proofs.CutForC.{c_cut}
use Rattle.claims.proofs.Ceiling.{session_counted}
use Rattle.claims.proofs.Carried.{session_carries}
use Rattle.claims.proofs.Apart.{session_apart_alike, c_apart_alike}
use Rattle.claims.specs.Ours.{on_session, for_c}

big_endian : Request02
unfolding word_of word_in cause3
big_endian = record {
  big = λ s first second. big_header s first second;
  little = λ s e at. ap (λ (big : Bool). word_in big s at) e;
  other = λ s e f. negated (header_sound s) (other_magic s e f);
}
  where
    negated : (b : Bool) → not b ≡ true → b ≡ false
    negated true e = absurd (true≢false (sym e))
    negated false e = refl

once_by : (l : List (List ℕ)) → map (λ (w : List ℕ). occurrences w table) l ≡ replicate (length l) 1 → (w : List ℕ) → Memᴰ w l → occurrences w table ≡ 1
once_by [] e w m = absurd (Memᴰ.not-nil m)
once_by (x ∷ l) e w m =
    ⊎_elim (λ q. ap (λ (v : List ℕ). occurrences v table) q ∙ ap (λ (k : List ℕ). get_or k 0 0) e) (λ r. once_by l (ap (drop 1) e) w r) (Memᴰ.cases_cons m)

fixed_words_lem : Request04
fixed_words_lem = record { small = table_small; once = once_by fixed_words each_once }

pub claims : Claims
claims = record {
  demand1 = session_opens;
  demand1_c = c_opens;
  demands = session_stated;
  demands_c = c_stated;
  request02 = big_endian;
  request03 = placing;
  request04 = fixed_words_lem;
  request05 = λ p modes s n. declared_first on_session p modes s n (session_stated p modes s n) (session_sound p modes s n);
  request05_c = λ p modes s n. declared_first for_c p modes s n (c_stated p modes s n) (c_sound p modes s n);
  request06 = λ T. record {
    off = λ e t w. pointers_stay T e (through true t) w;
    on = λ e t w. arrays_forget T e (through true t) w;
    of_itself = λ e x m array is member to_array to_itself. array_of_itself T x m array e is member to_array to_itself;
  };
  request07 = session_once;
  request07_c = c_once;
  request08 = session_apart_alike;
  request08_c = c_apart_alike;
  request09 = record { reads_back = reads_back; exactly = exactly; decodes = decodes; numbered = numbered };
  request10 = record { alone = two_headers; accounts = accounts; spellings = spellings; demands = third_demand; reserves = reserves };
  request11 = record { is_path = sound; unique = unique; refused = refused_leaves };
  request12 = session_reasoned;
  request13 = record {
    one = λ s section w t c id n. type_fits s section w t c id 0 zero-le n;
    all = λ s section w t c n. types_fits s section w t c n;
    list = λ s section w t ids c n. list_fits c s section w t ids n;
    counted = session_counted;
    lists = session_carries;
  };
  request14 = session_cut;
  request14_c = c_cut;
  program = printed;
}
