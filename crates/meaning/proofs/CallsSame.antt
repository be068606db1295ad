-- Each call on the words answers as it does on the simple list, and both stand for the same store afterwards. Assumes nothing.
use mathlib.Core.Path.{◌≡◌, refl, sym, ap, ap₂, ◌∙◌}
use mathlib.Core.Bool.{Bool, true, false}
use mathlib.Core.List.{List, [], ◌∷◌, map}
use Prim.Native.Nat.{ℕ, zero, suc, ◌+◌, ◌*◌, ◌≤◌, ◌<◌}
use native.Mathlib.Omega.{arith}
use borrow.Author.Tests.{leb-true, ltb-true, eqb-true}
use lib.ListN.{length, get_or, set, replicate, length-replicate, length-set, length-map}
use lib.Dec.{ltb, leb, eqb}
use Rattle.meaning.specs.Limits.{heap_words, payload_words}
use Rattle.meaning.specs.Answers.{Answer, gives, refused}
use Rattle.meaning.specs.Values.{Value, int, nil, ref, nil_word, word_of}
use Rattle.meaning.specs.Objects as O
use Rattle.meaning.specs.Objects.{words_of}
use Rattle.meaning.specs.Calls.{Call, put_int, put_nil, copy, new_record, new_raw, read_field, write_field, read_raw, write_raw, ask, same, word, the_same, Shown, plain, object, stray, need, find, judgeable, room_for, guards, fits, admit}
use Rattle.meaning.specs.Store.{Mem, shown, view_of, asked, act, acted, answered}
use Rattle.meaning.specs.SimpleList.{Born, rec, raw, gone, Simple, words, in_use, place, the, field_of, put_field, put_raw, no_value, held, show_born, show_value, view_list, say_born, say_value, act_list, acted_list, answered_list}
use Rattle.meaning.proofs.Births.{value_word, born_words, Good, map-set, map-replicate, replicate_all, set_all}
use Rattle.meaning.proofs.SameStore.{Same, Both, fits-small, sent_shown, length_same, slot_word, heap-read, shown_same}
use Rattle.meaning.proofs.SameWord.{same_word}
use Rattle.meaning.proofs.SameKept.{only_said, slot_kept, word_kept, new_kept}

-- what is admitted, with a birth number sent to a place
abbrev sent : (ℕ → ℕ) → Answer ℕ → Answer ℕ
sent f (refused n p) = refused n p
sent f (gives i) = gives (f i)

-- both are refused alike, or both go on, with what P says of the object's number
record Goes (f : ℕ → ℕ) (P : ℕ → Type 0) (x y : Answer ℕ) : Type 0 where
  is : x ≡ sent f y
  then : (i : ℕ) → y ≡ gives i → P i

differ : {A : Type 0} (n p i : ℕ) → ◌≡◌ {A = Answer ℕ} (refused n p) (gives i) → A
differ n p i e = absurd (let x : ◌≡◌ {A = ℕ} 0 1 = cc in omega arith)

-- ## The guards
refused_both : {f : ℕ → ℕ} {P : ℕ → Type 0} (n p : ℕ) → Goes f P (refused n p) (refused n p)
refused_both n p = record { is = refl; then = λ i e. differ n p i e }

gives_both : {f : ℕ → ℕ} {P : ℕ → Type 0} (i j : ℕ) → j ≡ f i → P i → Goes f P (gives j) (gives i)
gives_both {f} {P} i j e h = record { is = ap gives e; then = λ k q. let x : i ≡ k = cc in rw x at h }

need_same : {f : ℕ → ℕ} {P : ℕ → Type 0} {b b' : Bool} {x y : Answer ℕ} (n p : ℕ) → b ≡ b' → (b' ≡ true → Goes f P x y) → Goes f P (need b n p x) (need b' n p y)
need_same {b' = true} n p e k = rw e (k refl)
need_same {b' = false} n p e k = rw e (refused_both n p)

find_same : {g : ℕ → ℕ} {P : ℕ → Type 0} {x : Shown} (kind o f : ℕ) (y : Shown) → x ≡ sent_shown g y
    → ((i n : ℕ) → y ≡ object i kind n → f < n → P i) → Goes g P (find kind o f x) (find kind o f y)
find_same kind o f (plain a) e h = rw e (refused_both 8 o)
find_same kind o f stray e h = rw e (refused_both 13 o)
find_same {g} {P} kind o f (object i k n) e h =
    rw e
    (need_same 8 o refl λ a. need_same 9 f refl λ b.
    gives_both i (g i) refl (h i n (ap (λ (z : ℕ). object i z n) (eqb-true k kind a)) (ltb-true f n b)))

place-zero : (os : List Born) → 0 ≡ place os 0
place-zero [] = refl
place-zero (o ∷ os) = refl

put_field_good : (os : List Born) (o : Born) (f : ℕ) (v : Value) → Good os v → ((k : ℕ) → Good os (field_of o k)) → (k : ℕ) → Good os (field_of (put_field o f v) k)
put_field_good os (rec vs) f v g h k = set_all (Good os) vs no_value v f g h k
put_field_good os (raw ws) f v g h k = h k
put_field_good os (gone n) f v g h k = h k

-- what is shown as an object of a kind is one
is_record_lem : (os : List Born) (v : Value) (i n : ℕ) → show_value os v ≡ object i 0 n → (vs : List Value) × (the os i ≡ rec vs) × (length vs ≡ n)
is_record_lem os (int z) i n e = absurd (let x : ◌≡◌ {A = ℕ} 0 1 = cc in omega arith)
is_record_lem os nil i n e = absurd (let x : ◌≡◌ {A = ℕ} 0 1 = cc in omega arith)
is_record_lem os (ref j) i n e = go (the os j) refl e
  where
    go : (o : Born) → the os j ≡ o → show_born j o ≡ object i 0 n → (vs : List Value) × (the os i ≡ rec vs) × (length vs ≡ n)
    go (rec vs) q e = (vs, (let x : j ≡ i = cc in rw x at q), cc)
    go (raw ws) q e = absurd (let x : ◌≡◌ {A = ℕ} 1 0 = cc in omega arith)
    go (gone m) q e = absurd (let x : ◌≡◌ {A = ℕ} 0 1 = cc in omega arith)

is_raw_lem : (os : List Born) (v : Value) (i n : ℕ) → show_value os v ≡ object i 1 n → (ws : List ℕ) × (the os i ≡ raw ws) × (length ws ≡ n)
is_raw_lem os (int z) i n e = absurd (let x : ◌≡◌ {A = ℕ} 0 1 = cc in omega arith)
is_raw_lem os nil i n e = absurd (let x : ◌≡◌ {A = ℕ} 0 1 = cc in omega arith)
is_raw_lem os (ref j) i n e = go (the os j) refl e
  where
    go : (o : Born) → the os j ≡ o → show_born j o ≡ object i 1 n → (ws : List ℕ) × (the os i ≡ raw ws) × (length ws ≡ n)
    go (rec vs) q e = absurd (let x : ◌≡◌ {A = ℕ} 0 1 = cc in omega arith)
    go (raw ws) q e = (ws, (let x : j ≡ i = cc in rw x at q), cc)
    go (gone m) q e = absurd (let x : ◌≡◌ {A = ℕ} 0 1 = cc in omega arith)

-- an ask says what the list says of the value
ask-says : (f : ℕ → ℕ) (os : List Born) (v : Value) → Good os v → asked (sent_shown f (show_value os v)) ≡ say_value os v
ask-says f os (int z) h = refl
ask-says f os nil h = refl
ask-says f os (ref i) h = one (the os i) h
  where
    one : (o : Born) → 0 < words o → asked (sent_shown f (show_born i o)) ≡ say_born o
    one (rec vs) h = refl
    one (raw ws) h = refl
    one (gone n) h = absurd (omega arith)

judge_same : {g : ℕ → ℕ} {P : ℕ → Type 0} {x : Shown} (s : ℕ) (y : Shown) → 0 ≡ g 0 → x ≡ sent_shown g y → ((i : ℕ) → P i)
    → Goes g P (judgeable s x) (judgeable s y)
judge_same s (plain a) z e h = rw e (gives_both 0 0 z (h 0))
judge_same s stray z e h = rw e (refused_both 13 s)
judge_same {g} s (object i k n) z e h = rw e (gives_both i (g i) refl (h i))

-- ## The calls
module _ {c : Mem} {a : Simple} (r : Same c a) (small : in_use a.objects ≤ heap_words) where
  abbrev Then : Call → ℕ → Type 0
  Then k i = Both c a (gives (act c k (place a.objects i))) (gives (act_list a k i))

  abbrev Guarded : Call → Type 0
  Guarded k = Goes (place a.objects) (Then k) (guards (view_of c) k) (guards (view_list a) k)

  slot_there : (s : ℕ) → ltb s (length c.slots) ≡ ltb s (length a.slots)
  slot_there s = ap (ltb s) (length_same r)

  nothing_else : (k : Call) → Then k 0 → Goes (place a.objects) (Then k) (gives 0) (gives 0)
  nothing_else k h = gives_both 0 0 (place-zero a.objects) h

  room_same : (k : Call) (n : ℕ) → (n ≤ payload_words → in_use a.objects + suc n ≤ a.room → Then k 0)
      → Goes (place a.objects) (Then k) (room_for (view_of c) n) (room_for (view_list a) n)
  room_same k n h =
      need_same 12 0 refl λ few. need_same 11 0 (ap₂ (λ (t m : ℕ). leb (t + 1 + n) m) r.at_top r.room) λ there.
      let b = leb-true (in_use a.objects + 1 + n) a.room there in
      nothing_else k (h (leb-true n payload_words few) (omega arith))

  heap_word : (i f : ℕ) → suc f < words (the a.objects i)
      → get_or c.heap (suc (place a.objects i) + f) 0 ≡ get_or (born_words (place a.objects) (the a.objects i)) (suc f) 0
  heap_word i f h =
      let e : suc (place a.objects i) + f ≡ place a.objects i + suc f = omega arith in
      rw e (heap-read c.heap c.store.top a.objects r.below r.at_top i (suc f) h)

  field_same : (k : Call) (o f : ℕ) → ((i : ℕ) (vs : List Value) → the a.objects i ≡ rec vs → f < length vs → Then k i)
      → Goes (place a.objects) (Then k) (find 0 o f (shown c o)) (find 0 o f (show_value a.objects (held a o)))
  field_same k o f h =
      find_same 0 o f (show_value a.objects (held a o)) (shown_same r small o) λ i n e b.
      let (vs, q, l) = is_record_lem a.objects (held a o) i n e in
      h i vs q (omega arith)

  raw_same : (k : Call) (o f : ℕ) → ((i : ℕ) (ws : List ℕ) → the a.objects i ≡ raw ws → f < length ws → Then k i)
      → Goes (place a.objects) (Then k) (find 1 o f (shown c o)) (find 1 o f (show_value a.objects (held a o)))
  raw_same k o f h =
      find_same 1 o f (show_value a.objects (held a o)) (shown_same r small o) λ i n e b.
      let (ws, q, l) = is_raw_lem a.objects (held a o) i n e in
      h i ws q (omega arith)

  map_read : (vs : List Value) (f : ℕ) → f < length vs → get_or (map (value_word (place a.objects)) vs) f 0 ≡ value_word (place a.objects) (get_or vs f no_value)
  map_read (v ∷ vs) zero h = refl
  map_read (v ∷ vs) (suc f) h = map_read vs f (omega arith)
  map_read [] f h = absurd (omega arith)

  guards_same : (k : Call) → Guarded k
  guards_same (put_int s z) =
      need_same 7 s (slot_there s) λ _. need_same 10 0 refl λ g.
      nothing_else (put_int s z) (record { rel = slot_kept r s (word_of (int z)) (int z) refl g; same = refl })
  guards_same (put_nil s) =
      need_same 7 s (slot_there s) λ _. nothing_else (put_nil s) (record { rel = slot_kept r s nil_word nil refl tt; same = refl })
  guards_same (copy s t) =
      need_same 7 s (slot_there s) λ _. need_same 7 t (slot_there t) λ _.
      nothing_else (copy s t) (record { rel = slot_kept r t (get_or c.slots s 0) (held a s) (slot_word r s) (r.held s); same = refl })
  guards_same (new_record s k) =
      need_same 7 s (slot_there s) λ _. room_same (new_record s k) k λ few there.
      let n = length-replicate k nil in
      record {
        rel =
            new_kept r s (rec (replicate k nil)) (O.rec (replicate k nil_word)) (λ f. ap (λ (l : List ℕ). words_of (O.rec l)) (map-replicate (value_word f) k nil))
            (omega arith) (omega arith) (omega arith) (replicate_all (Good a.objects) k nil no_value tt refl);
        same = refl;
      }
  guards_same (new_raw s k) =
      need_same 7 s (slot_there s) λ _. room_same (new_raw s k) k λ few there.
      let n = length-replicate {A = ℕ} k 0 in
      record {
        rel = new_kept r s (raw (replicate k 0)) (O.raw (replicate k 0)) (λ f. refl) (omega arith) (omega arith) (omega arith) (λ j. refl);
        same = refl;
      }
  guards_same (read_field o f t) =
      need_same 7 o (slot_there o) λ _. need_same 7 t (slot_there t) λ _. field_same (read_field o f t) o f λ i vs q b.
      record {
        rel =
            slot_kept r t _ (field_of (the a.objects i) f) (heap_word i f (rw q (omega arith)) ∙ rw q (map_read vs f b))
            (r.fields i f);
        same = refl;
      }
  guards_same (write_field o f s) =
      need_same 7 o (slot_there o) λ _. need_same 7 s (slot_there s) λ _. field_same (write_field o f s) o f λ i vs q b.
      let v : Value = held a s in
      let w = value_word (place a.objects) in
      record {
        rel =
            word_kept r i (suc f) _ _ (put_field (the a.objects i) f v) (omega arith) (rw q (omega arith)) (rw q (ap suc (length-set vs f v)))
            (rw (slot_word r s, q) (ap₂ (λ (m : ℕ) (k : List ℕ). (4 * m + 0) ∷ k) (length-map vs w ∙ (sym (length-set vs f v) ∙ sym (length-map (set vs f v) w))) (sym (map-set w vs f v))))
            (put_field_good a.objects (the a.objects i) f v (r.held s) (r.fields i));
        same = refl;
      }
  guards_same (read_raw o f) =
      need_same 7 o (slot_there o) λ _. raw_same (read_raw o f) o f λ i ws q b.
      record { rel = only_said r; same = ap (λ (w : ℕ). gives (word w)) (heap_word i f (rw q (omega arith)) ∙ rw q) }
  guards_same (write_raw o f w) =
      need_same 7 o (slot_there o) λ _. raw_same (write_raw o f w) o f λ i ws q b.
      record {
        rel =
            word_kept r i (suc f) _ w (put_raw (the a.objects i) f w) (omega arith) (rw q (omega arith)) (rw q (ap suc (length-set ws f w)))
            (rw q (ap (λ (m : ℕ). (4 * m + 1) ∷ set ws f w) (sym (length-set ws f w)))) (λ j. rw q refl);
        same = refl;
      }
  guards_same (ask s) =
      need_same 7 s (slot_there s) λ _. judge_same s (show_value a.objects (held a s)) (place-zero a.objects) (shown_same r small s) λ i.
      record { rel = only_said r; same = ap gives (ap asked (shown_same r small s) ∙ ask-says (place a.objects) a.objects (held a s) (r.held s)) }
  guards_same (same s t) =
      need_same 7 s (slot_there s) λ _. need_same 7 t (slot_there t) λ _.
      nothing_else (same s t)
      (record {
        rel = only_said r;
        same =
            ap (λ (b : Bool). gives (the_same b))
            (ap₂ eqb (slot_word r s) (slot_word r t) ∙ same_word a.objects small (held a s) (held a t) (r.held s) (r.held t));
      })

module _ {c : Mem} {a : Simple} (r : Same c a) where
  fits_same : fits (view_of c) ≡ fits (view_list a)
  fits_same = cc (r.room, r.at_top, length_same r)

  acted_same : (k : Call) (x y : Answer ℕ) → Goes (place a.objects) (λ i. Both c a (gives (act c k (place a.objects i))) (gives (act_list a k i))) x y
      → Both c a (acted c k x) (acted_list a k y)
  acted_same k x (refused n p) g = rw g.is (record { rel = r; same = refl })
  acted_same k x (gives i) g = rw g.is (g.then i refl)

  pub answered_same : (k : Call) → Both c a (answered c k) (answered_list a k)
  unfolding answered answered_list admit
  answered_same k =
      acted_same k (admit (view_of c) k) (admit (view_list a) k) (need_same 1 0 fits_same λ e. guards_same r (fits-small r e) k)
