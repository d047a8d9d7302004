-- Two type sections that compilers wrote, with all 19 kinds between them. `clang_types` and `pahole_types` were taken from what libbpf's reader says of
-- the files (`bpftool -j btf dump file`), the bytes from the files: so the definitions stand against a reader that was not written from them.
--   clang: clang 14 -target bpf -g -O2 of tools/records/kinds.c. tools/records/compiled.sh makes the bytes again and compares.
--   pahole: gcc -g and pahole -J (for ENUM64, which clang 14 does not write) of
--     enum big { C = 4294967303LL, D = -2 }; struct s { enum big b; };
use Prim.Native.Nat.{ℕ, ◌+◌, ◌*◌}
use mathlib.Core.Path.{◌≡◌, refl}
use mathlib.Core.Bool.{true, false}
use mathlib.Core.List.{List, [], ◌∷◌}
use Rattle.spec_linux_btf.specs.Documentation.{Described, described, member, enumerator, enumerator64, param, secinfo, int, ptr, array, struct, union, enum, fwd, typedef, volatile, const, restrict, func, func_proto, var, datasec, float, decl_tag, type_tag, enum64, encode, encode_all}
use Rattle.spec_linux_btf.specs.Places.{type_p, kind_p, flag_p, vlen_p}
use Rattle.spec_linux_btf.specs.Fields.{kind_flag, structs, struct_field, int_bits, array_type, array_index_type, array_nelems, member_name_off, member_type, member_offset, enum_val, param_type, var_linkage, secinfo_type, secinfo_offset, secinfo_size, component_idx, enum64_name_off, enum64_lo, enum64_hi}
use Rattle.spec_linux_btf.specs.Reading.{word, kind, decode, sound, named, passes, places, decode_all, layout_sound}

clang_types : List Described
clang_types =
    described 1 0 4 (int 0 32 0 0 1 0)
    ∷ described 0 0 1 (func_proto (param 5 1 ∷ []))
    ∷ described 7 0 2 (func 1)
    ∷ described 72 0 16 (struct (member 77 5 0 0 ∷ member 82 1 64 0 ∷ []))
    ∷ described 0 0 4 (ptr 0)
    ∷ described 84 0 4 (decl_tag 0 1)
    ∷ described 86 0 4 (var 0 1)
    ∷ described 88 0 64 (struct (member 92 9 0 0 ∷ member 94 13 64 0 ∷ member 96 14 96 0 ∷ member 98 16 192 0 ∷ member 84 19 256 0 ∷ member 100 20 320 0 ∷ member 102 22 352 0 ∷ member 104 23 384 0 ∷ member 106 24 448 0 ∷ []))
    ∷ described 0 0 10 (restrict 0)
    ∷ described 0 0 11 (ptr 0)
    ∷ described 0 0 12 (const 0)
    ∷ described 108 0 1 (typedef 0)
    ∷ described 0 0 1 (volatile 0)
    ∷ described 0 0 0 (array 0 1 15 3)
    ∷ described 112 0 4 (int 0 32 0 0 0 0)
    ∷ described 0 0 17 (ptr 0)
    ∷ described 132 0 0 (fwd 0)
    ∷ described 100 0 1 (type_tag 0)
    ∷ described 0 0 18 (ptr 0)
    ∷ described 138 0 4 (union (member 140 1 0 0 ∷ member 142 21 0 0 ∷ []))
    ∷ described 144 0 4 (float 0)
    ∷ described 102 0 4 (enum (enumerator 150 4294967295 ∷ enumerator 152 7 ∷ []))
    ∷ described 154 0 8 (enum (enumerator 158 7 ∷ []))
    ∷ described 160 1 4 (struct (member 5 25 0 5 ∷ member 162 25 5 3 ∷ []))
    ∷ described 164 0 4 (int 0 32 0 0 0 0)
    ∷ described 177 0 8 (var 0 1)
    ∷ described 0 0 28 (ptr 0)
    ∷ described 0 0 1 (func_proto (param 0 29 ∷ param 0 0 ∷ []))
    ∷ described 0 0 30 (ptr 0)
    ∷ described 0 0 31 (const 0)
    ∷ described 179 0 1 (int 0 8 0 0 1 0)
    ∷ described 184 0 27 (var 0 1)
    ∷ described 187 0 0 (datasec (secinfo 7 0 16 ∷ secinfo 26 0 64 ∷ secinfo 32 0 8 ∷ []))
    ∷ []

clang_bytes : List ℕ
clang_bytes =
    1 ∷ 0 ∷ 0 ∷ 0 ∷ 0 ∷ 0 ∷ 0 ∷ 1 ∷ 4 ∷ 0 ∷ 0 ∷ 0 ∷ 32 ∷ 0 ∷ 0 ∷ 1 ∷ 0 ∷ 0 ∷ 0 ∷ 0 ∷ 1 ∷ 0 ∷ 0 ∷ 13
    ∷ 1 ∷ 0 ∷ 0 ∷ 0 ∷ 5 ∷ 0 ∷ 0 ∷ 0 ∷ 1 ∷ 0 ∷ 0 ∷ 0 ∷ 7 ∷ 0 ∷ 0 ∷ 0 ∷ 1 ∷ 0 ∷ 0 ∷ 12 ∷ 2 ∷ 0 ∷ 0 ∷ 0
    ∷ 72 ∷ 0 ∷ 0 ∷ 0 ∷ 2 ∷ 0 ∷ 0 ∷ 4 ∷ 16 ∷ 0 ∷ 0 ∷ 0 ∷ 77 ∷ 0 ∷ 0 ∷ 0 ∷ 5 ∷ 0 ∷ 0 ∷ 0 ∷ 0 ∷ 0 ∷ 0 ∷ 0
    ∷ 82 ∷ 0 ∷ 0 ∷ 0 ∷ 1 ∷ 0 ∷ 0 ∷ 0 ∷ 64 ∷ 0 ∷ 0 ∷ 0 ∷ 0 ∷ 0 ∷ 0 ∷ 0 ∷ 0 ∷ 0 ∷ 0 ∷ 2 ∷ 4 ∷ 0 ∷ 0 ∷ 0
    ∷ 84 ∷ 0 ∷ 0 ∷ 0 ∷ 0 ∷ 0 ∷ 0 ∷ 17 ∷ 4 ∷ 0 ∷ 0 ∷ 0 ∷ 1 ∷ 0 ∷ 0 ∷ 0 ∷ 86 ∷ 0 ∷ 0 ∷ 0 ∷ 0 ∷ 0 ∷ 0 ∷ 14
    ∷ 4 ∷ 0 ∷ 0 ∷ 0 ∷ 1 ∷ 0 ∷ 0 ∷ 0 ∷ 88 ∷ 0 ∷ 0 ∷ 0 ∷ 9 ∷ 0 ∷ 0 ∷ 4 ∷ 64 ∷ 0 ∷ 0 ∷ 0 ∷ 92 ∷ 0 ∷ 0 ∷ 0
    ∷ 9 ∷ 0 ∷ 0 ∷ 0 ∷ 0 ∷ 0 ∷ 0 ∷ 0 ∷ 94 ∷ 0 ∷ 0 ∷ 0 ∷ 13 ∷ 0 ∷ 0 ∷ 0 ∷ 64 ∷ 0 ∷ 0 ∷ 0 ∷ 96 ∷ 0 ∷ 0 ∷ 0
    ∷ 14 ∷ 0 ∷ 0 ∷ 0 ∷ 96 ∷ 0 ∷ 0 ∷ 0 ∷ 98 ∷ 0 ∷ 0 ∷ 0 ∷ 16 ∷ 0 ∷ 0 ∷ 0 ∷ 192 ∷ 0 ∷ 0 ∷ 0 ∷ 84 ∷ 0 ∷ 0 ∷ 0
    ∷ 19 ∷ 0 ∷ 0 ∷ 0 ∷ 0 ∷ 1 ∷ 0 ∷ 0 ∷ 100 ∷ 0 ∷ 0 ∷ 0 ∷ 20 ∷ 0 ∷ 0 ∷ 0 ∷ 64 ∷ 1 ∷ 0 ∷ 0 ∷ 102 ∷ 0 ∷ 0 ∷ 0
    ∷ 22 ∷ 0 ∷ 0 ∷ 0 ∷ 96 ∷ 1 ∷ 0 ∷ 0 ∷ 104 ∷ 0 ∷ 0 ∷ 0 ∷ 23 ∷ 0 ∷ 0 ∷ 0 ∷ 128 ∷ 1 ∷ 0 ∷ 0 ∷ 106 ∷ 0 ∷ 0 ∷ 0
    ∷ 24 ∷ 0 ∷ 0 ∷ 0 ∷ 192 ∷ 1 ∷ 0 ∷ 0 ∷ 0 ∷ 0 ∷ 0 ∷ 0 ∷ 0 ∷ 0 ∷ 0 ∷ 11 ∷ 10 ∷ 0 ∷ 0 ∷ 0 ∷ 0 ∷ 0 ∷ 0 ∷ 0
    ∷ 0 ∷ 0 ∷ 0 ∷ 2 ∷ 11 ∷ 0 ∷ 0 ∷ 0 ∷ 0 ∷ 0 ∷ 0 ∷ 0 ∷ 0 ∷ 0 ∷ 0 ∷ 10 ∷ 12 ∷ 0 ∷ 0 ∷ 0 ∷ 108 ∷ 0 ∷ 0 ∷ 0
    ∷ 0 ∷ 0 ∷ 0 ∷ 8 ∷ 1 ∷ 0 ∷ 0 ∷ 0 ∷ 0 ∷ 0 ∷ 0 ∷ 0 ∷ 0 ∷ 0 ∷ 0 ∷ 9 ∷ 1 ∷ 0 ∷ 0 ∷ 0 ∷ 0 ∷ 0 ∷ 0 ∷ 0
    ∷ 0 ∷ 0 ∷ 0 ∷ 3 ∷ 0 ∷ 0 ∷ 0 ∷ 0 ∷ 1 ∷ 0 ∷ 0 ∷ 0 ∷ 15 ∷ 0 ∷ 0 ∷ 0 ∷ 3 ∷ 0 ∷ 0 ∷ 0 ∷ 112 ∷ 0 ∷ 0 ∷ 0
    ∷ 0 ∷ 0 ∷ 0 ∷ 1 ∷ 4 ∷ 0 ∷ 0 ∷ 0 ∷ 32 ∷ 0 ∷ 0 ∷ 0 ∷ 0 ∷ 0 ∷ 0 ∷ 0 ∷ 0 ∷ 0 ∷ 0 ∷ 2 ∷ 17 ∷ 0 ∷ 0 ∷ 0
    ∷ 132 ∷ 0 ∷ 0 ∷ 0 ∷ 0 ∷ 0 ∷ 0 ∷ 7 ∷ 0 ∷ 0 ∷ 0 ∷ 0 ∷ 100 ∷ 0 ∷ 0 ∷ 0 ∷ 0 ∷ 0 ∷ 0 ∷ 18 ∷ 1 ∷ 0 ∷ 0 ∷ 0
    ∷ 0 ∷ 0 ∷ 0 ∷ 0 ∷ 0 ∷ 0 ∷ 0 ∷ 2 ∷ 18 ∷ 0 ∷ 0 ∷ 0 ∷ 138 ∷ 0 ∷ 0 ∷ 0 ∷ 2 ∷ 0 ∷ 0 ∷ 5 ∷ 4 ∷ 0 ∷ 0 ∷ 0
    ∷ 140 ∷ 0 ∷ 0 ∷ 0 ∷ 1 ∷ 0 ∷ 0 ∷ 0 ∷ 0 ∷ 0 ∷ 0 ∷ 0 ∷ 142 ∷ 0 ∷ 0 ∷ 0 ∷ 21 ∷ 0 ∷ 0 ∷ 0 ∷ 0 ∷ 0 ∷ 0 ∷ 0
    ∷ 144 ∷ 0 ∷ 0 ∷ 0 ∷ 0 ∷ 0 ∷ 0 ∷ 16 ∷ 4 ∷ 0 ∷ 0 ∷ 0 ∷ 102 ∷ 0 ∷ 0 ∷ 0 ∷ 2 ∷ 0 ∷ 0 ∷ 6 ∷ 4 ∷ 0 ∷ 0 ∷ 0
    ∷ 150 ∷ 0 ∷ 0 ∷ 0 ∷ 255 ∷ 255 ∷ 255 ∷ 255 ∷ 152 ∷ 0 ∷ 0 ∷ 0 ∷ 7 ∷ 0 ∷ 0 ∷ 0 ∷ 154 ∷ 0 ∷ 0 ∷ 0 ∷ 1 ∷ 0 ∷ 0 ∷ 6
    ∷ 8 ∷ 0 ∷ 0 ∷ 0 ∷ 158 ∷ 0 ∷ 0 ∷ 0 ∷ 7 ∷ 0 ∷ 0 ∷ 0 ∷ 160 ∷ 0 ∷ 0 ∷ 0 ∷ 2 ∷ 0 ∷ 0 ∷ 132 ∷ 4 ∷ 0 ∷ 0 ∷ 0
    ∷ 5 ∷ 0 ∷ 0 ∷ 0 ∷ 25 ∷ 0 ∷ 0 ∷ 0 ∷ 0 ∷ 0 ∷ 0 ∷ 5 ∷ 162 ∷ 0 ∷ 0 ∷ 0 ∷ 25 ∷ 0 ∷ 0 ∷ 0 ∷ 5 ∷ 0 ∷ 0 ∷ 3
    ∷ 164 ∷ 0 ∷ 0 ∷ 0 ∷ 0 ∷ 0 ∷ 0 ∷ 1 ∷ 4 ∷ 0 ∷ 0 ∷ 0 ∷ 32 ∷ 0 ∷ 0 ∷ 0 ∷ 177 ∷ 0 ∷ 0 ∷ 0 ∷ 0 ∷ 0 ∷ 0 ∷ 14
    ∷ 8 ∷ 0 ∷ 0 ∷ 0 ∷ 1 ∷ 0 ∷ 0 ∷ 0 ∷ 0 ∷ 0 ∷ 0 ∷ 0 ∷ 0 ∷ 0 ∷ 0 ∷ 2 ∷ 28 ∷ 0 ∷ 0 ∷ 0 ∷ 0 ∷ 0 ∷ 0 ∷ 0
    ∷ 2 ∷ 0 ∷ 0 ∷ 13 ∷ 1 ∷ 0 ∷ 0 ∷ 0 ∷ 0 ∷ 0 ∷ 0 ∷ 0 ∷ 29 ∷ 0 ∷ 0 ∷ 0 ∷ 0 ∷ 0 ∷ 0 ∷ 0 ∷ 0 ∷ 0 ∷ 0 ∷ 0
    ∷ 0 ∷ 0 ∷ 0 ∷ 0 ∷ 0 ∷ 0 ∷ 0 ∷ 2 ∷ 30 ∷ 0 ∷ 0 ∷ 0 ∷ 0 ∷ 0 ∷ 0 ∷ 0 ∷ 0 ∷ 0 ∷ 0 ∷ 10 ∷ 31 ∷ 0 ∷ 0 ∷ 0
    ∷ 179 ∷ 0 ∷ 0 ∷ 0 ∷ 0 ∷ 0 ∷ 0 ∷ 1 ∷ 1 ∷ 0 ∷ 0 ∷ 0 ∷ 8 ∷ 0 ∷ 0 ∷ 1 ∷ 184 ∷ 0 ∷ 0 ∷ 0 ∷ 0 ∷ 0 ∷ 0 ∷ 14
    ∷ 27 ∷ 0 ∷ 0 ∷ 0 ∷ 1 ∷ 0 ∷ 0 ∷ 0 ∷ 187 ∷ 0 ∷ 0 ∷ 0 ∷ 3 ∷ 0 ∷ 0 ∷ 15 ∷ 0 ∷ 0 ∷ 0 ∷ 0 ∷ 7 ∷ 0 ∷ 0 ∷ 0
    ∷ 0 ∷ 0 ∷ 0 ∷ 0 ∷ 16 ∷ 0 ∷ 0 ∷ 0 ∷ 26 ∷ 0 ∷ 0 ∷ 0 ∷ 0 ∷ 0 ∷ 0 ∷ 0 ∷ 64 ∷ 0 ∷ 0 ∷ 0 ∷ 32 ∷ 0 ∷ 0 ∷ 0
    ∷ 0 ∷ 0 ∷ 0 ∷ 0 ∷ 8 ∷ 0 ∷ 0 ∷ 0
    ∷ []

clang_laid : encode_all false clang_types ≡ clang_bytes
unfolding clang_types clang_bytes encode_all encode
clang_laid = refl

clang_read : decode_all false clang_bytes ≡ clang_types
unfolding clang_types clang_bytes decode_all decode places word kind
clang_read = refl

clang_sound : layout_sound false 192 clang_bytes ≡ true
unfolding clang_bytes layout_sound passes sound named word kind
clang_sound = refl

pahole_types : List Described
pahole_types =
    described 1 1 8 (enum64 (enumerator64 5 7 1 ∷ enumerator64 7 4294967294 4294967295 ∷ []))
    ∷ described 9 0 8 (int 0 64 0 0 1 0)
    ∷ described 18 0 8 (struct (member 20 1 0 0 ∷ []))
    ∷ []

pahole_bytes : List ℕ
pahole_bytes =
    1 ∷ 0 ∷ 0 ∷ 0 ∷ 2 ∷ 0 ∷ 0 ∷ 147 ∷ 8 ∷ 0 ∷ 0 ∷ 0 ∷ 5 ∷ 0 ∷ 0 ∷ 0 ∷ 7 ∷ 0 ∷ 0 ∷ 0 ∷ 1 ∷ 0 ∷ 0 ∷ 0
    ∷ 7 ∷ 0 ∷ 0 ∷ 0 ∷ 254 ∷ 255 ∷ 255 ∷ 255 ∷ 255 ∷ 255 ∷ 255 ∷ 255 ∷ 9 ∷ 0 ∷ 0 ∷ 0 ∷ 0 ∷ 0 ∷ 0 ∷ 1 ∷ 8 ∷ 0 ∷ 0 ∷ 0
    ∷ 64 ∷ 0 ∷ 0 ∷ 1 ∷ 18 ∷ 0 ∷ 0 ∷ 0 ∷ 1 ∷ 0 ∷ 0 ∷ 4 ∷ 8 ∷ 0 ∷ 0 ∷ 0 ∷ 20 ∷ 0 ∷ 0 ∷ 0 ∷ 1 ∷ 0 ∷ 0 ∷ 0
    ∷ 0 ∷ 0 ∷ 0 ∷ 0
    ∷ []

pahole_laid : encode_all false pahole_types ≡ pahole_bytes
unfolding pahole_types pahole_bytes encode_all encode
pahole_laid = refl

pahole_read : decode_all false pahole_bytes ≡ pahole_types
unfolding pahole_types pahole_bytes decode_all decode places word kind
pahole_read = refl

pahole_sound : layout_sound false 22 pahole_bytes ≡ true
unfolding pahole_bytes layout_sound passes sound named word kind
pahole_sound = refl

-- fields by places
clang_at : ℕ → Described
clang_at p = type_p (word false clang_bytes) p

clang_fields : (int_bits (clang_at 0) ≡ 32) × (member_name_off (clang_at 48) 1 ≡ 82) × (member_type (clang_at 48) 1 ≡ 1) × (member_offset (clang_at 48) 1 ≡ 64)
unfolding clang_at clang_bytes struct_field structs kind_flag type_p kind_p flag_p vlen_p word kind
clang_fields = (refl, refl, refl, refl)

clang_fields_2 : (component_idx (clang_at 96) ≡ 1) × (var_linkage (clang_at 112) ≡ 1) × (array_type (clang_at 308) ≡ 1) × (array_index_type (clang_at 308) ≡ 15) × (array_nelems (clang_at 308) ≡ 3)
unfolding clang_at clang_bytes struct_field structs kind_flag type_p kind_p flag_p vlen_p word kind
clang_fields_2 = (refl, refl, refl, refl, refl)

clang_fields_3 : (enum_val (clang_at 444) 0 ≡ 4294967295) × (kind_flag (clang_at 492) ≡ 1) × (member_offset (clang_at 492) 1 ≡ 5 + 3 * 16777216) × (param_type (clang_at 572) 0 ≡ 29)
unfolding clang_at clang_bytes struct_field structs kind_flag type_p kind_p flag_p vlen_p word kind
clang_fields_3 = (refl, refl, refl, refl)

clang_fields_4 : (secinfo_type (clang_at 656) 2 ≡ 32) × (secinfo_offset (clang_at 656) 2 ≡ 0) × (secinfo_size (clang_at 656) 1 ≡ 64)
unfolding clang_at clang_bytes struct_field structs kind_flag type_p kind_p flag_p vlen_p word kind
clang_fields_4 = (refl, refl, refl)

pahole_fields : (enum64_name_off (type_p (word false pahole_bytes) 0) 1 ≡ 7) × (enum64_lo (type_p (word false pahole_bytes) 0) 1 ≡ 4294967294) × (enum64_hi (type_p (word false pahole_bytes) 0) 0 ≡ 1)
unfolding pahole_bytes struct_field structs kind_flag type_p kind_p flag_p vlen_p word kind
pahole_fields = (refl, refl, refl)
