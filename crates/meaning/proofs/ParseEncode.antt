-- Parsing and encoding undo one another: legal objects are read back, and a heap that parses is its objects' words. Assumes nothing.
use mathlib.Core.Path.{◌≡◌, refl, sym, ap, ◌∙◌}
use mathlib.Core.Bool.{Bool, true, false, ◌&&◌, cond}
use mathlib.Core.Logic.{◌≢◌}
use mathlib.Core.List.{List, [], ◌∷◌, ◌++◌}
use Prim.Native.Nat.{ℕ, zero, suc, ◌+◌, ◌*◌, ◌/◌, ◌%◌, ◌≤◌, ◌<◌}
use native.Mathlib.Nat.{add-zero}
use native.Mathlib.Omega.{arith}
use lib.ListN.{length, take, drop, length-append, take-append-drop}
use lib.Seq.{take-append_seam, length-take-le}
use lib.Dec.{ltb, leb, eqb}
use borrow.Author.Tests.{lt-ltb, le-leb, ne_eqb, eq-eqb, leb-true, ltb-true, eqb-true, eqb-false}
use Rattle.meaning.specs.Limits.{payload_words}
use Rattle.meaning.specs.Objects.{Object, rec, raw, payload, kind, size, words_of, encode, legal_header, object, Parsed, all, bad, push, parse_from, parse}
use Rattle.meaning.proofs.Deciding.{and_both}

-- the words of many objects
abbrev pub total : List Object → ℕ
total [] = 0
total (o ∷ os) = size o + total os

pub length-encode : (os : List Object) → length (encode os) ≡ total os
length-encode [] = refl
length-encode (o ∷ os) = ap suc (length-append (payload o) (encode os)) ∙ omega (arith, length-encode os)

-- a payload has at most 1,023 words
abbrev pub Legal : List Object → Type 0
Legal [] = Unit {0}
Legal (o ∷ os) = (length (payload o) ≤ payload_words) × Legal os

skip : (p : ℕ) (ws t : List ℕ) → parse_from p (length ws) (ws ++ t) ≡ parse_from (p + length ws) 0 t
skip p [] [] = refl
skip p [] (x ∷ t) = rw add-zero
skip p (w ∷ ws) t = skip (suc p) ws t ∙ ap (λ (n : ℕ). parse_from n 0 t) (omega arith)

pub kind-two : (o : Object) → kind o < 2
kind-two (rec ws) = omega arith
kind-two (raw ws) = omega arith

pub header_legal : (o : Object) → length (payload o) ≤ payload_words → legal_header (4 * length (payload o) + kind o) ≡ true
header_legal o h =
    let k = kind-two o in
    rw (lt-ltb (4 * length (payload o) + kind o) (4 * (payload_words + 1)) (omega arith), lt-ltb ((4 * length (payload o) + kind o) % 4) 2 (omega arith))

pub header_size : (o : Object) → (4 * length (payload o) + kind o) / 4 ≡ length (payload o)
header_size o = omega (arith, kind-two o)

header_object : (o : Object) → object (4 * length (payload o) + kind o) (payload o) ≡ o
header_object (rec ws) = rw (eq-eqb ((4 * length ws + 0) % 4) 0 (omega arith))
header_object (raw ws) = rw (ne_eqb ((4 * length ws + 1) % 4) 0 (λ e. omega arith))

-- legal objects are read back
pub parse-encode_from : (p : ℕ) (os : List Object) → Legal os → parse_from p 0 (encode os) ≡ all os
parse-encode_from p [] l = refl
parse-encode_from p (o ∷ os) l =
    rw (header_legal o l.0, header_size o, le-leb (length (payload o)) (length (payload o ++ encode os)) (omega (arith, length-append (payload o) (encode os))), take-append_seam (payload o) (encode os), header_object o, skip (suc p) (payload o) (encode os))
    (ap (push o) (parse-encode_from (suc p + length (payload o)) os l.1))

pub parse-encode : (os : List Object) (rest : List ℕ) → Legal os → parse (encode os ++ rest) (length (encode os)) ≡ all os
unfolding parse
parse-encode os rest l = rw take-append_seam (parse-encode_from 0 os l)

-- and what parses is the words of legal objects
pub record Holds (ws : List ℕ) (os : List Object) : Type 0 where
  pub words : ws ≡ encode os
  pub legal : Legal os

unpush : (o : Object) (r : Parsed) (os : List Object) → push o r ≡ all os → (os' : List Object) × (r ≡ all os') × (os ≡ o ∷ os')
unpush o (all os') os e = (os', refl, cc)
unpush o (bad p) os e = absurd (let z : ◌≡◌ {A = ℕ} 0 1 = cc in omega arith)

object_words : (w : ℕ) (ws : List ℕ) → legal_header w ≡ true → w / 4 ≡ length ws → (words_of (object w ws) ≡ w ∷ ws) × (payload (object w ws) ≡ ws)
object_words w ws l e =
    let k : w % 4 < 2 = ltb-true (w % 4) 2 (and_both (ltb w (4 * (payload_words + 1))) (ltb (w % 4) 2) l).1 in
    go (eqb (w % 4) 0) refl k
  where
    go : (b : Bool) → eqb (w % 4) 0 ≡ b → w % 4 < 2 → (words_of (cond b (rec ws) (raw ws)) ≡ w ∷ ws) × (payload (cond b (rec ws) (raw ws)) ≡ ws)
    go true b k = (ap (λ (h : ℕ). h ∷ ws) (omega (arith, eqb-true (w % 4) 0 b)), refl)
    go false b k = (ap (λ (h : ℕ). h ∷ ws) (let n : w % 4 ≢ 0 = eqb-false (w % 4) 0 b in omega arith), refl)

pub encode-parse_from : (p k : ℕ) (ws : List ℕ) (os : List Object) → k ≤ length ws → parse_from p k ws ≡ all os → Holds (drop k ws) os
encode-parse_from p zero [] os h e = let z : [] ≡ os = cc in rw (← z) (record { words = refl; legal = tt })
encode-parse_from p (suc k) [] os h e = absurd (omega arith)
encode-parse_from p zero (w ∷ ws) os h e =
    go (legal_header w && leb (w / 4) (length ws)) refl e (λ os'. encode-parse_from (suc p) (w / 4) ws os')
  where
    go : (b : Bool) → legal_header w && leb (w / 4) (length ws) ≡ b
        → cond b (push (object w (take (w / 4) ws)) (parse_from (suc p) (w / 4) ws)) (bad p) ≡ all os
        → ((os' : List Object) → w / 4 ≤ length ws → parse_from (suc p) (w / 4) ws ≡ all os' → Holds (drop (w / 4) ws) os')
        → Holds (w ∷ ws) os
    go true b e ih =
        let t = and_both (legal_header w) (leb (w / 4) (length ws)) b in
        let l : w / 4 ≤ length ws = leb-true _ _ t.1 in
        let u = unpush _ _ os e in
        let r = ih u.0 l u.1 in
        let o = object_words w (take (w / 4) ws) t.0 (sym (length-take-le (w / 4) ws l)) in
        let small : w < 4 * (payload_words + 1) = ltb-true w (4 * (payload_words + 1)) (and_both (ltb w (4 * (payload_words + 1))) (ltb (w % 4) 2) t.0).0 in
        rw u.2
        (record {
          words =
              ap (λ (l : List ℕ). w ∷ l) (sym (take-append-drop (w / 4) ws) ∙ ap (λ (l : List ℕ). take (w / 4) ws ++ l) r.words)
              ∙ ap (λ (l : List ℕ). l ++ encode u.0) (sym o.0);
          legal = (rw (o.1, length-take-le (w / 4) ws l) (omega arith), r.legal);
        })
    go false b e ih = absurd (let z : ◌≡◌ {A = ℕ} 0 1 = cc in omega arith)
encode-parse_from p (suc k) (w ∷ ws) os h e = encode-parse_from (suc p) k ws os (omega arith) e

pub encode-parse : (heap : List ℕ) (top : ℕ) (os : List Object) → parse heap top ≡ all os → Holds (take top heap) os
unfolding parse
encode-parse heap top os e = encode-parse_from 0 0 (take top heap) os (omega arith) e
