-- Cases P1 to P12: the number, what the case gives, and what it should give.
use Rattle.std.specs.Prelude.{ℕ, zero, suc, ◌*◌, ◌-◌, ◌%◌, Bool, true, false, List, [], ◌∷◌, ◌++◌, replicate, pos, negsuc}
use Rattle.meaning.specs.Answers.{gives, refused}
use Rattle.meaning.specs.Values.{Value, int, nil_word, value_of, ref_to}
use Rattle.meaning.specs.Objects.{Object, rec, raw, encode, legal_header}
use Rattle.meaning.specs.Collect.{After, collect}

pub data Fact : Type 0 where
  value : Value → Fact
  legal : Bool → Fact
  after : After → Fact

-- the whole case, with tables of one entry 7 before the call
abbrev heap1 : List ℕ
heap1 = 8 ∷ 10 ∷ 15 ∷ 13 ∷ 101 ∷ 102 ∷ 103 ∷ 4 ∷ 1 ∷ 1 ∷ replicate 6 9

abbrev roots1 : ℕ → List ℕ
roots1 r = r ∷ 19 ∷ 4294967294 ∷ nil_word ∷ []

abbrev whole : ℕ → ℕ → List ℕ → Fact
whole r marks order = after (collect heap1 10 (roots1 r) (marks ∷ []) order (7 ∷ []) (7 ∷ []))

abbrev done : ℕ → ℕ → ℕ → List ℕ → List ℕ → List ℕ → List ℕ → List ℕ → Fact
done top objects blocks heap roots marks live offsets =
    after (record { answer = gives (record { top = top; objects = objects; blocks = blocks }); heap = heap; roots = roots; marks = marks; live = live; offsets = offsets })

abbrev refusal : ℕ → ℕ → ℕ → ℕ → ℕ → ℕ → Fact
refusal n p r marks live offset =
    after (record { answer = refused n p; heap = heap1; roots = roots1 r; marks = marks ∷ []; live = live ∷ []; offsets = offset ∷ [] })

-- eight kept records of 32 words, the first field of each referring to the next one, `far` words on, and what stands between them
abbrev eight : ℕ → List Object → ℕ → List Object
eight far between zero = []
eight far between (suc n) = rec (ref_to (far * ((8 - n) % 8)) ∷ replicate 30 (2 * n)) ∷ between ++ eight far between n

-- with a dead raw object of 32 words after each: eight blocks with 32 live words each
abbrev spread : List ℕ
spread = encode (eight 64 (raw (replicate 31 5) ∷ []) 8)

abbrev eight_blocks : List ℕ → Fact
eight_blocks order = after (collect spread 512 (385 ∷ []) (replicate 8 1) order (replicate 8 7) (replicate 8 7))

abbrev slid_eight : Fact
slid_eight = done 256 8 4 (encode (eight 32 [] 8) ++ replicate 256 0) (193 ∷ []) (replicate 8 0) (replicate 8 4294967295) (0 ∷ 32 ∷ 64 ∷ 96 ∷ 128 ∷ 160 ∷ 192 ∷ 224 ∷ [])

unfoldable pub cases : List (ℕ × Fact × Fact)
cases =
    (1, whole 15 641 (0 ∷ []), done 6 3 1 (8 ∷ 10 ∷ 7 ∷ 4 ∷ 1 ∷ 1 ∷ replicate 4 0 ++ replicate 6 9) (7 ∷ 11 ∷ 4294967294 ∷ nil_word ∷ []) (0 ∷ []) (903 ∷ []) (0 ∷ []))
    ∷ (2, after (collect [] 0 [] [] [] [] []), done 0 0 0 [] [] [] [] [])
    ∷ (3, value (value_of 4294967294), value (int (negsuc 0)))
    ∷ (4, value (value_of 2147483648), value (int (negsuc 1073741823)))
    ∷ (4, value (value_of 2147483646), value (int (pos 1073741823)))
    ∷ (5, legal (legal_header 4093), legal true)
    ∷ (5, legal (legal_header 4092), legal true)
    ∷ (5, legal (legal_header 4096), legal false)
    ∷ (5, legal (legal_header 2), legal false)
    ∷ (6, whole 15 649 (0 ∷ []), done 10 4 1 heap1 (roots1 15) (0 ∷ []) (1023 ∷ []) (0 ∷ []))
    ∷ (7, whole 15 657 (0 ∷ []), refusal 3 4 15 657 7 7)
    ∷ (8, whole 15 513 (0 ∷ []), refusal 4 0 15 513 7 7)
    ∷ (9, whole nil_word 513 (0 ∷ []), refusal 5 2 nil_word 513 7 7)
    ∷ (10, whole 15 641 [], refusal 6 0 15 641 903 0)
    ∷ (11, whole 15 641 (0 ∷ 0 ∷ []), refusal 6 1 15 641 903 0)
    ∷ (12, eight_blocks (0 ∷ 1 ∷ 2 ∷ 3 ∷ []), slid_eight)
    ∷ (12, eight_blocks (0 ∷ 1 ∷ 3 ∷ 2 ∷ []), slid_eight)
    ∷ (12, eight_blocks (0 ∷ 2 ∷ 1 ∷ 3 ∷ []), after (record { answer = refused 6 1; heap = spread; roots = 385 ∷ []; marks = replicate 8 1; live = replicate 8 4294967295; offsets = (0 ∷ 32 ∷ 64 ∷ 96 ∷ 128 ∷ 160 ∷ 192 ∷ 224 ∷ []) }))
    ∷ []
