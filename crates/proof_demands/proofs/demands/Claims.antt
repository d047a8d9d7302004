-- THE THEOREM: of every section that opening accepts, in every mode and for every length of the work. Assumes nothing.
use Prim.Native.Nat.{ℕ}
use mathlib.Core.Path.{◌≡◌}
use mathlib.Core.List.{List}
use Rattle.spec_linux_btf.specs.Reading.{Bytes}
use Rattle.spec_type_table.specs.Table.{btf_of, work_naming}
use Rattle.spec_opening.specs.Table.{enumerators_of}
use Rattle.spec_opening.specs.Opened.{work_of}
use Rattle.spec_opening.specs.Causes.{opening_number}
use Rattle.spec_c_dumper.specs.needs.Session.{no_names}
use Rattle.spec_c_dumper.proofs.needs.Session.{by_demand3}
use Rattle.spec_c_dumper.proofs.needs.AnyNames.{dumps_alike}
use Rattle.proof_demands.specs.name_counts.Indexed.{NameFits, FitsValue}
use Rattle.proof_demands.specs.name_counts.Alike.{Alike}
use Rattle.proof_demands.proofs.name_counts.Related.{alike_first}
use Rattle.proof_demands.proofs.name_counts.Table.{fits_table}
use Rattle.proof_demands.specs.demands.Table.{header_of, opened_table, names_in}
use Rattle.proof_demands.specs.demands.Claims.{Documents, Gives}
use Rattle.proof_demands.proofs.demands.Described.{count_described, type_described, type_zero, type_past, tags_described}
use Rattle.proof_demands.proofs.demands.Sound.{opened_wf}
use Rattle.proof_demands.proofs.demands.Named.{opened_indexed, opened_names, opened_fresh}

-- the names in the work that opening left: no version, no holder
opened_alike : (p modes : ℕ) (s : List ℕ) (n : ℕ) → opening_number p s n ≡ 0 → Alike (header_of p modes s) (enumerators_of s) s (work_of p modes s n) (work_of p modes s n) (no_names (opened_table p modes s n))
unfolding btf_of
opened_alike p modes s n ok = alike_first (header_of p modes s) (enumerators_of s) s (work_of p modes s n) (opened_indexed p modes s n ok) (opened_fresh p modes s n ok)

module _ (p modes : ℕ) (s : List ℕ) (n : ℕ) (ok : opening_number p s n ≡ 0) where
  pub opened_documents : Bytes s → Documents p modes s n
  opened_documents y = record {
    count = count_described p modes s n ok;
    zero_void = type_zero p modes s n ok;
    type = type_described p modes s n ok y;
    past_void = type_past p modes s n ok;
    tags = tags_described p modes s n ok;
  }

  pub opening_gives : Gives p modes s n
  opening_gives = record {
    documented = opened_documents;
    well_formed = opened_wf p modes s n ok;
    indexed = opened_indexed p modes s n ok;
    fresh = opened_fresh p modes s n ok;
    demand3 = λ rs. by_demand3 (names_in p modes s n) (opened_table p modes s n) (opened_wf p modes s n ok) (no_names (opened_table p modes s n)) rs;
    work_demand3 = λ rs. by_demand3 (work_naming (header_of p modes s)) (opened_table p modes s n) (opened_wf p modes s n ok) (work_of p modes s n) rs;
    same_text = λ rs. dumps_alike (Alike (header_of p modes s) (enumerators_of s) s (work_of p modes s n)) (NameFits (header_of p modes s) s (work_of p modes s n)) (FitsValue (header_of p modes s) s (work_of p modes s n))
        (work_naming (header_of p modes s)) (names_in p modes s n) (opened_names p modes s n ok) (opened_table p modes s n) (fits_table (header_of p modes s) s (work_of p modes s n)) (opened_wf p modes s n ok)
        (work_of p modes s n) (no_names (opened_table p modes s n)) (opened_alike p modes s n ok) rs;
  }
