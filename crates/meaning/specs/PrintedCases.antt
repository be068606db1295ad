-- Images and what is printed for them, the whole case first.
use Rattle.std.specs.Prelude.{ℕ, ◌+◌, ◌/◌, ◌%◌, List, [], ◌∷◌, ◌++◌, take, replicate}
use Prim.Native.String.{String}
use Rattle.meaning.specs.Text.{ascii, newline}
use Rattle.meaning.specs.Image.{printed}

-- the bytes of words, the least byte first
abbrev pub bytes_of : List ℕ → List ℕ
bytes_of [] = []
bytes_of (w ∷ ws) = w % 256 ∷ w / 256 % 256 ∷ w / 65536 % 256 ∷ w / 16777216 % 256 ∷ bytes_of ws

abbrev lined : List String → List ℕ
lined [] = []
lined (l ∷ ls) = ascii l ++ newline ++ lined ls

-- contents of an image with these lengths, the kind and the top first
abbrev contents : ℕ → ℕ → ℕ → ℕ → ℕ → ℕ → List ℕ
contents kind top words slots halves steps =
    kind ∷ top ∷ 10 ∷ words ∷ (10 + words) ∷ slots ∷ (10 + words + slots) ∷ halves ∷ (10 + words + slots + halves) ∷ steps ∷ []

-- the whole case: its bodies
abbrev bodies : List ℕ
bodies = 8 ∷ 10 ∷ 15 ∷ 13 ∷ 101 ∷ 102 ∷ 103 ∷ 4 ∷ 1 ∷ 1 ∷ replicate 6 9 ++ (15 ∷ 19 ∷ 4294967294 ∷ 4294967295 ∷ 641 ∷ 0 ∷ 0 ∷ [])

abbrev whole : List ℕ
whole = bytes_of (1 ∷ 10 ∷ 10 ∷ 16 ∷ 26 ∷ 4 ∷ 30 ∷ 2 ∷ 32 ∷ 1 ∷ bodies)

-- what is printed for the bytes b, and what should be
abbrev prints : List ℕ → List String → List ℕ × List ℕ
prints b ls = (printed b, lined ls)

unfoldable pub printed_cases : List (List ℕ × List ℕ)
printed_cases =
    prints whole ("ok top 6 objects 3 blocks 1" ∷ "heap 8 10 7 4 1 1" ∷ "roots 7 11 4294967294 4294967295" ∷ [])
    -- the empty heap without roots
    ∷ prints (bytes_of (contents 1 0 0 0 0 0)) ("ok top 0 objects 0 blocks 0" ∷ "heap" ∷ "roots" ∷ [])
    -- nothing, nine words, and contents cut by a byte
    ∷ prints [] ("refused 14 at 0" ∷ [])
    ∷ prints (bytes_of (1 ∷ 0 ∷ 10 ∷ 0 ∷ 10 ∷ 0 ∷ 10 ∷ 0 ∷ 10 ∷ [])) ("refused 14 at 0" ∷ [])
    ∷ prints (take 39 (bytes_of (contents 1 0 0 0 0 0))) ("refused 14 at 0" ∷ [])
    -- another kind, a gap before the roots, an odd marks length
    ∷ prints (bytes_of (contents 2 0 0 0 0 0)) ("refused 14 at 0" ∷ [])
    ∷ prints (bytes_of (1 ∷ 0 ∷ 10 ∷ 0 ∷ 11 ∷ 0 ∷ 11 ∷ 0 ∷ 11 ∷ 0 ∷ 0 ∷ [])) ("refused 14 at 0" ∷ [])
    ∷ prints (bytes_of (contents 1 0 0 0 1 0)) ("refused 14 at 0" ∷ [])
    -- 1 comes from the contents alone: the bodies are not there
    ∷ prints (bytes_of (contents 1 0 8193 0 258 0)) ("refused 1 at 0" ∷ [])
    ∷ prints (bytes_of (contents 1 1 0 0 0 0)) ("refused 1 at 0" ∷ [])
    ∷ prints (bytes_of (contents 1 0 8192 64 256 128)) ("refused 14 at 0" ∷ [])
    -- a start that only wraps to the right place
    ∷ prints (bytes_of (1 ∷ 0 ∷ 10 ∷ 4294967295 ∷ 9 ∷ 0 ∷ 9 ∷ 0 ∷ 9 ∷ 0 ∷ [])) ("refused 14 at 0" ∷ [])
    -- a byte, and a word, after the bodies
    ∷ prints (whole ++ (0 ∷ [])) ("refused 14 at 0" ∷ [])
    ∷ prints (whole ++ bytes_of (0 ∷ [])) ("refused 14 at 0" ∷ [])
    -- the collection's own refusal
    ∷ prints (bytes_of (contents 1 1 1 0 2 0 ++ (2 ∷ 0 ∷ 0 ∷ []))) ("refused 2 at 0" ∷ [])
    ∷ []
