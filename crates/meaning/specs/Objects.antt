-- Objects, the words that hold them, and the objects that words hold.
use Rattle.std.specs.Prelude.{ℕ, zero, suc, ◌+◌, ◌*◌, ◌/◌, ◌%◌, Bool, false, ◌&&◌, cond, List, [], ◌∷◌, ◌++◌, length, take, ltb, leb, eqb}
use Rattle.meaning.specs.Limits.{payload_words}

-- a record, whose payload words are values, or raw, whose payload is never interpreted
pub data Object : Type 0 where
  rec : List ℕ → Object
  raw : List ℕ → Object

abbrev pub payload : Object → List ℕ
payload (rec ws) = ws
payload (raw ws) = ws

abbrev pub kind : Object → ℕ
kind (rec ws) = 0
kind (raw ws) = 1

-- the words that an object takes
abbrev pub size : Object → ℕ
size o = suc (length (payload o))

-- the header, 4 x payload words + kind, then the payload
abbrev pub words_of : Object → List ℕ
words_of o = (4 * length (payload o) + kind o) ∷ payload o

-- objects lie end to end
abbrev pub encode : List Object → List ℕ
encode [] = []
encode (o ∷ os) = words_of o ++ encode os

-- a header is below 4,096 and its remainder by 4 is 0 or 1
abbrev pub legal_header : ℕ → Bool
legal_header w = ltb w (4 * (payload_words + 1)) && ltb (w % 4) 2

-- the object of a header and its payload
abbrev pub object : ℕ → List ℕ → Object
object w ws = cond (eqb (w % 4) 0) (rec ws) (raw ws)

-- all objects, or the place of the first bad header
pub data Parsed : Type 0 where
  all : List Object → Parsed
  bad : ℕ → Parsed

abbrev pub push : Object → Parsed → Parsed
push o (all os) = all (o ∷ os)
push o (bad p) = bad p

-- the objects in words that begin at place p, the first k of which are payload of an object already taken
abbrev pub parse_from : ℕ → ℕ → List ℕ → Parsed
parse_from p k [] = all []
parse_from p zero (w ∷ ws) =
    cond (legal_header w && leb (w / 4) (length ws)) (push (object w (take (w / 4) ws)) (parse_from (suc p) (w / 4) ws)) (bad p)
parse_from p (suc k) (w ∷ ws) = parse_from (suc p) k ws

-- the objects that lie end to end from place 0 to exactly the top
unfoldable pub parse : List ℕ → ℕ → Parsed
parse heap top = parse_from 0 0 (take top heap)

-- of objects that begin at place p, one holds place q, and it and the place of its header pass the test
abbrev pub held_by : (ℕ → Object → Bool) → ℕ → List Object → ℕ → Bool
held_by f p [] q = false
held_by f p (o ∷ os) q = cond (ltb q (p + size o)) (f p o) (held_by f (p + size o) os q)
