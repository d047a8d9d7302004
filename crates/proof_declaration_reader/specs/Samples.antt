-- Texts and what the reader says of each: the marked samples of document 01, and texts that look alike. That they hold is
-- `samples_hold` of proofs/Samples.
use Rattle.std.specs.Prelude.{ℕ, List, [], ◌∷◌}
use Prim.Native.String.{String}
use Rattle.spec_bytes.specs.text.Text.{ascii}
use Rattle.spec_c_dumper.specs.rules.Types.{Qualifier, volatile, const}
use Rattle.session_declaration_reader.specs.grammar.Chain.{Layers, named, pointer, array, proto, closed, dots, param}
use Rattle.session_declaration_reader.specs.reader.Reading.{Read, chain, refused, read}

pub record Sample : Type 0 where
  pub text : List ℕ
  pub wanted : Read (List ℕ)

abbrev pub sample : String → Read (List ℕ) → Sample
sample s r = record { text = ascii s; wanted = r }

abbrev pub of : List Qualifier → List (List ℕ) → Layers (List ℕ) → Read (List ℕ)
of q ws l = chain (record { quals = q; words = ws; layers = l })

abbrev pub int : List (List ℕ)
int = ascii "int" ∷ []

abbrev pub samples : List Sample
samples =
    sample "int *a[3]" (of [] int (pointer [] (array 3 named)))
    ∷ sample "int (*p)[3]" (of [] int (array 3 (pointer [] named)))
    ∷ sample "void (*f)(int)" (of [] (ascii "void" ∷ []) (proto (param [] int named closed) (pointer [] named)))
    ∷ sample "const struct s * const volatile*x"
    (of (const ∷ []) (ascii "struct" ∷ ascii "s" ∷ []) (pointer (const ∷ volatile ∷ []) (pointer [] named)))
    ∷ sample " long  unsigned int m [ 2 ][0 ] " (of [] (ascii "long" ∷ ascii "unsigned" ∷ ascii "int" ∷ []) (array 0 (array 2 named)))
    ∷ sample "int f(void)" (of [] int (proto closed named))
    ∷ sample "int f()" (of [] int (proto closed named))
    ∷ sample "int f(int, ...)" (of [] int (proto (param [] int named dots) named))
    ∷ sample "int f(int (*)(void), const int *[2])"
    (of [] int (proto (param [] int (proto closed (pointer [] named))
    (param (const ∷ []) int (pointer [] (array 2 named)) closed)) named))
    ∷ sample "int f(const void)" (of [] int (proto (param (const ∷ []) (ascii "void" ∷ []) named closed) named))
    ∷ sample "int *(*(*x))" (of [] int (pointer [] (pointer [] (pointer [] named))))
    ∷ sample "int a[4294967295]" (of [] int (array 4294967295 named))
    ∷ sample "int a[4294967296]" refused
    ∷ sample "int a[03]" refused
    ∷ sample "int a[]" refused
    ∷ sample "int (a)" refused
    ∷ sample "int (a[3])" refused
    ∷ sample "int *" refused
    ∷ sample "int" refused
    ∷ sample "x" refused
    ∷ sample "" refused
    ∷ sample "struct s" refused
    ∷ sample "struct *p" refused
    ∷ sample "struct s t x" refused
    ∷ sample "unsigned struct s x" refused
    ∷ sample "const const int x" refused
    ∷ sample "int const x" refused
    ∷ sample "int * const const x" refused
    ∷ sample "int f(...)" refused
    ∷ sample "int f(int, ..., int)" refused
    ∷ sample "int f(int, void)" refused
    ∷ sample "int f(void, int)" refused
    ∷ sample "int f(void *)" (of [] int (proto (param [] (ascii "void" ∷ []) (pointer [] named) closed) named))
    ∷ sample "int f(int x)" (of [] int (proto (param [] (ascii "int" ∷ ascii "x" ∷ []) named closed) named))
    ∷ sample "int f(int *x)" refused
    ∷ sample "int f(struct s x)" refused
    ∷ sample "int f(int,)" refused
    ∷ sample "int x;" refused
    ∷ sample "int 3x" refused
    ∷ sample "int x y]" refused
    ∷ []

abbrev pub all_given : List Sample → List (Read (List ℕ))
all_given [] = []
all_given (s ∷ ss) = read s.text ∷ all_given ss

abbrev pub all_wanted : List Sample → List (Read (List ℕ))
all_wanted [] = []
all_wanted (s ∷ ss) = s.wanted ∷ all_wanted ss
