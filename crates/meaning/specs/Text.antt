-- The lines that the program prints, as the codes of their letters.
use Rattle.std.specs.Prelude.{ℕ, zero, suc, ◌+◌, ◌/◌, ◌%◌, cond, List, [], ◌∷◌, ◌++◌, ltb, take}
use Prim.Native.Char.{code}
use Prim.Native.String.{String, [] as []ˢ, ◌∷◌ as ◌∷ˢ◌}
use Rattle.meaning.specs.Answers.{Answer, gives, refused}
use Rattle.meaning.specs.Collect.{Totals}

abbrev pub ascii : String → List ℕ
ascii []ˢ = []
ascii (c ∷ˢ s) = code c ∷ ascii s

-- n in decimals, of which at most the last k are kept
unfoldable pub digits : ℕ → ℕ → List ℕ
digits zero n = []
digits (suc k) n = cond (ltb n 10) ((48 + n) ∷ []) (digits k (n / 10) ++ ((48 + n % 10) ∷ []))

-- ten digits hold every 32-bit word
abbrev pub decimal : ℕ → List ℕ
decimal n = digits 10 n

-- each number after a space
unfoldable pub spaced : List ℕ → List ℕ
spaced [] = []
spaced (n ∷ ns) = 32 ∷ decimal n ++ spaced ns

abbrev pub newline : List ℕ
newline = 10 ∷ []

unfoldable pub refused_line : ℕ → ℕ → List ℕ
refused_line n p = ascii "refused " ++ decimal n ++ ascii " at " ++ decimal p ++ newline

unfoldable pub ok_line : Totals → List ℕ
ok_line t = ascii "ok top " ++ decimal t.top ++ ascii " objects " ++ decimal t.objects ++ ascii " blocks " ++ decimal t.blocks ++ newline

-- a name, and numbers where there are any
unfoldable pub words_line : String → List ℕ → List ℕ
words_line name ns = ascii name ++ spaced ns ++ newline

-- a collection's answer, with the words of the slid objects and the roots
abbrev pub lines : Answer Totals → List ℕ → List ℕ → List ℕ
lines (refused n p) heap roots = refused_line n p
lines (gives t) heap roots = ok_line t ++ words_line "heap" (take t.top heap) ++ words_line "roots" roots
