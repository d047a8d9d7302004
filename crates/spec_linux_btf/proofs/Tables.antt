-- The tables of the documentation: each field's bytes stand at the offset that the table gives, and the reader's lengths are the table's. Assumes nothing.
use Prim.Native.Nat.{ℕ, zero, suc, ◌+◌, ◌<◌}
use mathlib.Core.Path.{◌≡◌, refl, ap, ◌∙◌, sym}
use mathlib.Core.Bool.{Bool}
use mathlib.Core.List.{List, [], ◌∷◌, ◌++◌, map, append_assoc}
use native.Mathlib.Omega.{arith}
use lib.ListN.{length, get_or, take, drop, length-append, length-map}
use lib.Seq.{drop_at, take_at}
use Rattle.spec_linux_btf.specs.Documentation.{Field, field, other_bytes, in_bytes, lay_out, btf_header, btf_type, int_word, btf_array, btf_member, btf_enum, btf_param, btf_var, btf_var_secinfo, btf_decl_tag, btf_enum64, Follows, kinds, unknown, nothing, one, each, follows, follow_size, put_each, Member, member, Enumerator, enumerator, Param, param, Secinfo, secinfo, Enumerator64, enumerator64, put_member, put_enumerator, put_param, put_secinfo, put_enumerator64, Body, int, ptr, array, struct, union, enum, fwd, typedef, volatile, const, restrict, func, func_proto, var, datasec, float, decl_tag, type_tag, enum64, kind_of, vlen_of, put_body}
use Rattle.spec_linux_btf.specs.Fields.{member_fields, enum_fields, param_fields, secinfo_fields, enum64_fields, body_structs}
use Rattle.spec_linux_btf.specs.Reading.{kind, kind_table, extra, none, Kind}

---------------------------------------------------------------------------------------------------------------------------------------
-- Each field of a table begins where the one before it ends

abbrev pub Runs : ℕ → List Field → Type 0
Runs p [] = Unit {0}
Runs p (field name offset width ∷ fs) = (offset ≡ p) × Runs (p + width) fs

abbrev pub offset_of : List Field → ℕ → ℕ
offset_of [] i = 0
offset_of (field name offset width ∷ fs) zero = offset
offset_of (field name offset width ∷ fs) (suc i) = offset_of fs i

abbrev pub width_of : List Field → ℕ → ℕ
width_of [] i = 0
width_of (field name offset width ∷ fs) zero = width
width_of (field name offset width ∷ fs) (suc i) = width_of fs i

bytes_length : (big : Bool) (w v : ℕ) → length (in_bytes big w v) ≡ w
bytes_length big zero v = refl
bytes_length big (suc w) v = ap suc (bytes_length big w (other_bytes big v))

-- so its bytes stand at its offset, x being what stands before
stands : (big : Bool) (fs : List Field) (vs x : List ℕ) → Runs (length x) fs → length vs ≡ length fs → (i : ℕ) → i < length fs
    → take (width_of fs i) (drop (offset_of fs i) (x ++ lay_out big fs vs)) ≡ in_bytes big (width_of fs i) (get_or vs i 0)
stands big [] vs x r l i h = absurd (omega arith)
stands big (field n o w ∷ fs) [] x r l i h = absurd (omega arith)
stands big (field n o w ∷ fs) (v ∷ vs) x r l zero h =
    rw (drop_at x (in_bytes big w v ++ lay_out big fs vs) o (sym r.0)) (take_at (in_bytes big w v) (lay_out big fs vs) w (bytes_length big w v))
stands big (field n o w ∷ fs) (v ∷ vs) x r l (suc i) h =
    let e : length (x ++ in_bytes big w v) ≡ length x + w = length-append x (in_bytes big w v) ∙ ap (λ (k : ℕ). length x + k) (bytes_length big w v) in
    let r' : Runs (length (x ++ in_bytes big w v)) fs = rw e r.1 in
    rw (← append_assoc x (in_bytes big w v) (lay_out big fs vs)) (stands big fs vs (x ++ in_bytes big w v) r' (omega arith) i (omega arith))

pub field_stands : (big : Bool) (fs : List Field) (vs : List ℕ) → Runs 0 fs → length vs ≡ length fs → (i : ℕ) → i < length fs
    → take (width_of fs i) (drop (offset_of fs i) (lay_out big fs vs)) ≡ in_bytes big (width_of fs i) (get_or vs i 0)
field_stands big fs vs r l i h = stands big fs vs [] r l i h

pub header_runs : Runs 0 btf_header
header_runs = (refl, (refl, (refl, (refl, (refl, (refl, (refl, (refl, tt))))))))

pub type_runs : Runs 0 btf_type
type_runs = (refl, (refl, (refl, tt)))

pub int_runs : Runs 0 int_word
int_runs = (refl, tt)

pub array_runs : Runs 0 btf_array
array_runs = (refl, (refl, (refl, tt)))

pub member_runs : Runs 0 btf_member
member_runs = (refl, (refl, (refl, tt)))

pub enum_runs : Runs 0 btf_enum
enum_runs = (refl, (refl, tt))

pub param_runs : Runs 0 btf_param
param_runs = (refl, (refl, tt))

pub var_runs : Runs 0 btf_var
var_runs = (refl, tt)

pub secinfo_runs : Runs 0 btf_var_secinfo
secinfo_runs = (refl, (refl, (refl, tt)))

pub tag_runs : Runs 0 btf_decl_tag
tag_runs = (refl, tt)

pub enum64_runs : Runs 0 btf_enum64
enum64_runs = (refl, (refl, (refl, tt)))

-- the reader's length of what follows is the table's, for every kind and every vlen
abbrev Agree : List Kind → List Follows → Type 0
Agree [] [] = Unit {0}
Agree [] (f ∷ fs) = ⊥
Agree (x ∷ ks) [] = ⊥
Agree (x ∷ ks) (f ∷ fs) = ((v : ℕ) → extra x v ≡ follow_size f v) × Agree ks fs

agree : (ks : List Kind) (fs : List Follows) → Agree ks fs → (k v : ℕ) → extra (get_or ks k none) v ≡ follow_size (get_or fs k unknown) v
agree [] [] a k v = refl
agree [] (f ∷ fs) a k v = absurd a
agree (x ∷ ks) [] a k v = absurd a
agree (x ∷ ks) (f ∷ fs) a zero v = a.0 v
agree (x ∷ ks) (f ∷ fs) a (suc k) v = agree ks fs a.1 k v

pub lengths_agree : (k v : ℕ) → extra (kind k) v ≡ follow_size (get_or kinds k unknown) v
unfolding kind
lengths_agree k v =
    agree kind_table kinds
    (λ v. refl, (λ v. refl, (λ v. refl, (λ v. refl, (λ v. refl, (λ v. refl, (λ v. refl, (λ v. refl, (λ v. refl, (λ v. refl, (λ v. refl, (λ v. refl, (λ v. refl, (λ v. refl, (λ v. refl, (λ v. refl, (λ v. refl, (λ v. refl, (λ v. refl, (λ v. refl, tt))))))))))))))))))))
    k v

---------------------------------------------------------------------------------------------------------------------------------------
-- What follows struct btf_type in the encoder is the structs that the table names, in sequence, and as many as it says

abbrev pub struct_of : Follows → List Field
struct_of unknown = []
struct_of nothing = []
struct_of (one s) = s
struct_of (each s) = s

abbrev pub count_of : Follows → ℕ → ℕ
count_of unknown vlen = 0
count_of nothing vlen = 0
count_of (one s) vlen = 1
count_of (each s) vlen = vlen

each_laid : (big : Bool) {E : Type 0} (put fields : E → List ℕ) (s : List Field) → ((e : E) → put e ≡ lay_out big s (fields e))
    → (es : List E) → put_each put es ≡ put_each (lay_out big s) (map fields es)
each_laid big put fields s h [] = refl
each_laid big put fields s h (e ∷ es) = λ i. h e i ++ each_laid big put fields s h es i

member_laid : (big : Bool) (f : ℕ) (m : Member) → put_member big f m ≡ lay_out big btf_member (member_fields f m)
member_laid big f (member n t b z) = refl

enum_laid : (big : Bool) (e : Enumerator) → put_enumerator big e ≡ lay_out big btf_enum (enum_fields e)
enum_laid big (enumerator n v) = refl

param_laid : (big : Bool) (e : Param) → put_param big e ≡ lay_out big btf_param (param_fields e)
param_laid big (param n t) = refl

secinfo_laid : (big : Bool) (e : Secinfo) → put_secinfo big e ≡ lay_out big btf_var_secinfo (secinfo_fields e)
secinfo_laid big (secinfo t o z) = refl

enum64_laid : (big : Bool) (e : Enumerator64) → put_enumerator64 big e ≡ lay_out big btf_enum64 (enum64_fields e)
enum64_laid big (enumerator64 n l h) = refl

pub body_laid : (big : Bool) (f : ℕ) (b : Body) → put_body big f b ≡ put_each (lay_out big (struct_of (follows (kind_of b)))) (body_structs f b)
body_laid big f (int v a b c d e) = refl
body_laid big f (ptr v) = refl
body_laid big f (array v t i n) = refl
body_laid big f (struct ms) = each_laid big (put_member big f) (member_fields f) btf_member (member_laid big f) ms
body_laid big f (union ms) = each_laid big (put_member big f) (member_fields f) btf_member (member_laid big f) ms
body_laid big f (enum es) = each_laid big (put_enumerator big) enum_fields btf_enum (enum_laid big) es
body_laid big f (fwd v) = refl
body_laid big f (typedef v) = refl
body_laid big f (volatile v) = refl
body_laid big f (const v) = refl
body_laid big f (restrict v) = refl
body_laid big f (func v) = refl
body_laid big f (func_proto ps) = each_laid big (put_param big) param_fields btf_param (param_laid big) ps
body_laid big f (var v l) = refl
body_laid big f (datasec ss) = each_laid big (put_secinfo big) secinfo_fields btf_var_secinfo (secinfo_laid big) ss
body_laid big f (float v) = refl
body_laid big f (decl_tag v c) = refl
body_laid big f (type_tag v) = refl
body_laid big f (enum64 es) = each_laid big (put_enumerator64 big) enum64_fields btf_enum64 (enum64_laid big) es

pub body_count : (f : ℕ) (b : Body) → length (body_structs f b) ≡ count_of (follows (kind_of b)) (vlen_of b)
body_count f (int v a b c d e) = refl
body_count f (ptr v) = refl
body_count f (array v t i n) = refl
body_count f (struct ms) = length-map ms (member_fields f)
body_count f (union ms) = length-map ms (member_fields f)
body_count f (enum es) = length-map es (enum_fields)
body_count f (fwd v) = refl
body_count f (typedef v) = refl
body_count f (volatile v) = refl
body_count f (const v) = refl
body_count f (restrict v) = refl
body_count f (func v) = refl
body_count f (func_proto ps) = length-map ps (param_fields)
body_count f (var v l) = refl
body_count f (datasec ss) = length-map ss (secinfo_fields)
body_count f (float v) = refl
body_count f (decl_tag v c) = refl
body_count f (type_tag v) = refl
body_count f (enum64 es) = length-map es (enum64_fields)
