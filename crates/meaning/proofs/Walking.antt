-- A walk over the objects of a heap, step by step, as a loop takes it: it ends at the top or at the first bad header. Assumes nothing.
use mathlib.Core.Path.{◌≡◌, refl, sym, ap, ◌∙◌}
use mathlib.Core.Bool.{Bool, true, false, ◌&&◌, cond, and-false}
use mathlib.Core.List.{List, [], ◌∷◌, ◌++◌}
use Prim.Native.Nat.{ℕ, zero, suc, ◌+◌, ◌/◌, ◌%◌, ◌-◌, ◌≤◌, ◌<◌}
use native.Mathlib.Nat.{add-zero, add-suc, suc-add}
use native.Mathlib.Omega.{arith}
use lib.ListN.{length, get_or, take, drop, length-drop}
use lib.Seq.{drop-cons, drop-drop, drop-length, get_or-take, length-take-le}
use lib.Dec.{leb, eqb}
use borrow.Author.Tests.{le-leb, lt-leb}
use Rattle.meaning.specs.Words.{rest}
use Rattle.meaning.proofs.ParseEncode.{total}
use Rattle.meaning.proofs.ByWords.{rest_next}
use Rattle.meaning.specs.Objects.{Object, rec, raw, payload, size, legal_header, object, Parsed, all, bad, push, parse_from, parse}

skip_from : (p k : ℕ) (ws : List ℕ) → k ≤ length ws → parse_from p k ws ≡ parse_from (p + k) 0 (drop k ws)
skip_from p zero ws h = rw add-zero
skip_from p (suc k) [] h = absurd (omega arith)
skip_from p (suc k) (w ∷ ws) h = skip_from (suc p) k ws (omega arith) ∙ ap (λ (n : ℕ). parse_from n 0 (drop k ws)) (let e : suc p + k ≡ p + suc k = omega arith in e)

-- what is parsed from place p on, the words below the top being ws
abbrev pub from : List ℕ → ℕ → Parsed
from ws p = parse_from p 0 (drop p ws)

module _ (ws : List ℕ) (p : ℕ) where
  open_at : p < length ws → from ws p ≡ cond (legal_header (get_or ws p 0) && leb (get_or ws p 0 / 4) (length (drop (suc p) ws))) (push (object (get_or ws p 0) (take (get_or ws p 0 / 4) (drop (suc p) ws))) (parse_from (suc p) (get_or ws p 0 / 4) (drop (suc p) ws))) (bad p)
  open_at h = ap (parse_from p 0) (drop-cons ws p 0 h)

  -- the end
  pub from_end : p ≡ length ws → from ws p ≡ all []
  from_end e = ap (λ (n : ℕ). parse_from p 0 (drop n ws)) e ∙ ap (parse_from p 0) (drop-length ws)

  module _ (k : ℕ) (here : p < length ws) (long : get_or ws p 0 / 4 ≡ k) where
    -- a sound object
    pub from-object : legal_header (get_or ws p 0) ≡ true → p + suc k ≤ length ws
        → from ws p ≡ push (object (get_or ws p 0) (take k (drop (suc p) ws))) (from ws (p + suc k))
    from-object l fits =
        let left : length (drop (suc p) ws) ≡ length ws - suc p = length-drop (suc p) ws in
        let next : parse_from (suc p) k (drop (suc p) ws) ≡ from ws (p + suc k) =
        rw (skip_from (suc p) k (drop (suc p) ws) (omega arith), drop-drop k (suc p) ws, suc-add, ← add-suc p k) in
        open_at here
        ∙ rw (l, long, le-leb k (length (drop (suc p) ws)) (omega arith)) (ap (push (object (get_or ws p 0) (take k (drop (suc p) ws)))) next)

    -- a bad header
    pub from-illegal : legal_header (get_or ws p 0) ≡ false → from ws p ≡ bad p
    from-illegal l = open_at here ∙ rw l

    pub from_past : length ws < p + suc k → from ws p ≡ bad p
    from_past past =
        let left : length (drop (suc p) ws) ≡ length ws - suc p = length-drop (suc p) ws in
        open_at here ∙ rw (long, lt-leb k (length (drop (suc p) ws)) (omega arith), and-false (legal_header (get_or ws p 0)))

-- ## A loop over objects
-- what is known at place p, the objects os behind it: the parse is os, and then what is parsed from p on
abbrev pub pushes : List Object → Parsed → Parsed
pushes [] r = r
pushes (o ∷ os) r = push o (pushes os r)

pub pushes_all : (os : List Object) → pushes os (all []) ≡ all os
pushes_all [] = refl
pushes_all (o ∷ os) = ap (push o) (pushes_all os)

pub pushes-bad : (os : List Object) (q : ℕ) → pushes os (bad q) ≡ bad q
pushes-bad [] q = refl
pushes-bad (o ∷ os) q = ap (push o) (pushes-bad os q)

pushes_snoc : (os : List Object) (o : Object) (r : Parsed) → pushes os (push o r) ≡ pushes (os ++ (o ∷ [])) r
pushes_snoc [] o r = refl
pushes_snoc (x ∷ os) o r = ap (push x) (pushes_snoc os o r)

pub record Walked (ws : List ℕ) (p : ℕ) (os : List Object) : Type 0 where
  pub so_far : parse_from 0 0 ws ≡ pushes os (from ws p)
  pub place : total os ≡ p
  pub within : p ≤ length ws

total_snoc : (os : List Object) (o : Object) → total (os ++ (o ∷ [])) ≡ total os + size o
total_snoc [] o = omega arith
total_snoc (x ∷ os) o = let r = total_snoc os o in omega arith

pub walked_start : (ws : List ℕ) → Walked ws 0 []
walked_start ws = record { so_far = refl; place = refl; within = omega arith }

payload-object : (w : ℕ) (xs : List ℕ) → payload (object w xs) ≡ xs
payload-object w xs = go (eqb (w % 4) 0)
  where
    go : (b : Bool) → payload (cond b (rec xs) (raw xs)) ≡ xs
    go true = refl
    go false = refl

size-object : (ws : List ℕ) (p k : ℕ) → p + suc k ≤ length ws → size (object (get_or ws p 0) (take k (drop (suc p) ws))) ≡ suc k
size-object ws p k fits =
    ap (λ (l : List ℕ). suc (length l)) (payload-object (get_or ws p 0) (take k (drop (suc p) ws)))
    ∙ ap suc (length-take-le k (drop (suc p) ws) (rw length-drop (omega arith)))

module _ {ws : List ℕ} {p : ℕ} {os : List Object} (w : Walked ws p os) where
  pub walked_end : p ≡ length ws → parse_from 0 0 ws ≡ all os
  walked_end e = w.so_far ∙ ap (pushes os) (from_end ws p e) ∙ pushes_all os

  module _ (k : ℕ) (here : p < length ws) (long : get_or ws p 0 / 4 ≡ k) where
    pub walked-illegal : legal_header (get_or ws p 0) ≡ false → parse_from 0 0 ws ≡ bad p
    walked-illegal l = w.so_far ∙ ap (pushes os) (from-illegal ws p k here long l) ∙ pushes-bad os p

    pub walked-past : length ws < p + suc k → parse_from 0 0 ws ≡ bad p
    walked-past l = w.so_far ∙ ap (pushes os) (from_past ws p k here long l) ∙ pushes-bad os p

    pub walked-object : legal_header (get_or ws p 0) ≡ true → p + suc k ≤ length ws
        → Walked ws (p + suc k) (os ++ (object (get_or ws p 0) (take k (drop (suc p) ws)) ∷ []))
    walked-object l fits =
        record {
          so_far = w.so_far ∙ ap (pushes os) (from-object ws p k here long l fits) ∙ pushes_snoc os _ _;
          place = total_snoc os _ ∙ omega (arith, w.place, size-object ws p k fits);
          within = fits;
        }

-- ## The same for a heap and its top: an object starts at place p, and those before it are sound
pub record Walking (heap : List ℕ) (top p : ℕ) : Type 0 where
  pub objects : List Object
  pub walked : Walked (take top heap) p objects
  pub start : rest heap p ≡ 0
  pub room : top ≤ length heap
  pub within : p ≤ top

pub walking_start : (heap : List ℕ) (top : ℕ) → top ≤ length heap → Walking heap top 0
unfolding rest
walking_start heap top room = record { objects = []; walked = walked_start (take top heap); start = refl; room = room; within = omega arith }

module _ {heap : List ℕ} {top p : ℕ} (w : Walking heap top p) where
  long : length (take top heap) ≡ top
  long = length-take-le top heap w.room

  pub walking_end : p ≡ top → parse heap top ≡ all w.objects
  unfolding parse
  walking_end e = walked_end w.walked (e ∙ sym long)

  module _ (here : p < top) where
    same : get_or (take top heap) p 0 ≡ get_or heap p 0
    same = get_or-take top heap p 0 here

    pub walking-illegal : legal_header (get_or heap p 0) ≡ false → parse heap top ≡ bad p
    unfolding parse
    walking-illegal l = walked-illegal w.walked _ (omega (arith, long)) refl (rw same l)

    pub walking-past : top < p + 1 + get_or heap p 0 / 4 → parse heap top ≡ bad p
    unfolding parse
    walking-past l = walked-past w.walked (get_or heap p 0 / 4) (omega (arith, long)) (rw same) (omega (arith, long))

    pub walking-next : (k : ℕ) → k ≡ get_or heap p 0 / 4 → legal_header (get_or heap p 0) ≡ true → p + 1 + k ≤ top → Walking heap top (p + 1 + k)
    walking-next k e l fits =
        let v = walked-object w.walked k (omega (arith, long)) (ap (λ (h : ℕ). h / 4) same ∙ sym e) (rw same l) (omega (arith, long)) in
        let s : p + suc k ≡ p + 1 + k = omega arith in
        record {
          objects = w.objects ++ (object (get_or (take top heap) p 0) (take k (drop (suc p) (take top heap))) ∷ []);
          walked = rw s at v;
          start = rw (← s) (rest_next heap p k w.start (sym e));
          room = w.room;
          within = fits;
        }
