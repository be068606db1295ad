-- Demand 3 of the functions: whatever they answer to a sequence of calls is what the simple list answers. Assumes nothing.
use Rattle.std.proofs.Common.{◌≡◌, ℕ, suc, ◌<◌, true, ◌⊎◌, List, [], ◌∷◌, map, length, replicate, ℤ, Result, Ok, Err, sym, refl, ap, ◌∙◌, subst, ap₂, inl, inr, Bor, MutBor}
use contract.Lifetimes.{Lfts}
use Rattle.meaning.specs.Answers.{Answer as Answered, gives, refused}
use Rattle.meaning.specs.Values.{int, ref, nil_word}
use Rattle.meaning.specs.Calls.{Brought, Did, fits}
use Rattle.meaning.specs.Store.{Mem, answered}
use Rattle.meaning.specs.SimpleList.{Simple, words, the, held, view_list, say_born}
use Rattle.meaning.specs.Sequences.{Step, call, collect, Seen, said, after, step, step_list, run, run_list, empty_list}
use Rattle.meaning.proofs.SameStore.{Same}
use Rattle.meaning.proofs.DemandThree.{step_same, empty_same, demand_three}
use Rattle.meaning.proofs.ListAnswers.{Each, Neither, never_two_or_thirteen, asked-integer, asked-object, integer-asked, object-asked}
use Rattle.refusals.specs.Paper.{answer_of}
use Rattle.refusals.specs.declared.Refusal.{Refusal}
use Rattle.store.specs.declared.Store.{Store}
use Rattle.store.specs.declared.Answer.{Answer}
use Rattle.store.specs.declared.Call.{Call}
use Rattle.store.specs.declared.Call.TheVariants.{Ask}
use Rattle.store.specs.declared.Said.{Said}
use Rattle.store.specs.declared.Said.TheVariants.{Integer, Record, Raw}
use Rattle.store.specs.Contract.{store_of, paper_said, said_of, store_after, mem_of, brought_of, call_of, collection_of, Leaves}
use Rattle.calling.proofs.Settled.{said_back, paper_back, said_one, store_back, leaves_settled}
use Rattle.calling.proofs.Listed.{Listed, step_listed}
use Rattle.calling.proofs.answer.Reads as answering
use Rattle.calling.proofs.collect.Reads as collecting

-- what a caller does next: a call, or a collection with what is brought
pub data Next : Type 0 where
  calls : Call → Next
  collects : Brought → Next

abbrev pub step_of : Next → Step
step_of (calls k) = call (call_of k)
step_of (collects b) = collect b

-- what a call is given, and what it leaves
pub record Lent : Type 0 where
  pub store : Store
  pub heap : List ℕ
  pub slots : List ℕ

pub record Left : Type 0 where
  pub answer : Result (Answer Said) Refusal
  pub store : Store
  pub heap : List ℕ
  pub slots : List ℕ

-- the record after a call: the one given back, or after a refusal the caller's own
abbrev pub record_after : Store → Result (Answer Said) Refusal → Store
record_after s (Ok a) = a.store
record_after s (Err e) = s

-- what an answer says, without the record
abbrev pub saying : Result (Answer Said) Refusal → Result Said Refusal
saying (Ok a) = Ok a.said
saying (Err e) = Err e

abbrev pub lent_mem : Lent → Mem
lent_mem c = mem_of c.heap c.slots c.store

-- `answer`, with c lent, may leave e
pub record Answers (c : Lent) (k : Call) (e : Left) : Type 0 where
  pub κs : Lfts 2
  pub h : MutBor (List ℕ)
  pub t : MutBor (List ℕ)
  pub h' : MutBor (List ℕ)
  pub t' : MutBor (List ℕ)
  pub heap_lent : h.now ≡ c.heap
  pub slots_lent : t.now ≡ c.slots
  pub store_left : e.store ≡ record_after c.store e.answer
  pub heap_left : h'.now ≡ e.heap
  pub slots_left : t'.now ≡ e.slots
  pub promised : answering.Post κs (c.store, (h, (t, (k, tt)))) e.answer (c.store, (h', (t', (k, tt))))

-- and so may `collect`; the marks and tables that it leaves are the caller's again
pub record Collects (c : Lent) (b : Brought) (e : Left) : Type 0 where
  pub κs : Lfts 6
  pub h : MutBor (List ℕ)
  pub t : MutBor (List ℕ)
  pub m : MutBor (List ℕ)
  pub order : Bor (List ℕ)
  pub l : MutBor (List ℕ)
  pub o : MutBor (List ℕ)
  pub h' : MutBor (List ℕ)
  pub t' : MutBor (List ℕ)
  pub m' : MutBor (List ℕ)
  pub l' : MutBor (List ℕ)
  pub o' : MutBor (List ℕ)
  pub heap_lent : h.now ≡ c.heap
  pub slots_lent : t.now ≡ c.slots
  pub brought : brought_of m.now order.now l.now o.now ≡ b
  pub store_left : e.store ≡ record_after c.store e.answer
  pub heap_left : h'.now ≡ e.heap
  pub slots_left : t'.now ≡ e.slots
  pub promised : collecting.Post κs (c.store, (h, (t, (m, (order, (l, (o, tt))))))) e.answer (c.store, (h', (t', (m', (order, (l', (o', tt)))))))

abbrev pub Link : Lent → Next → Left → Type 0
Link c (calls k) e = Answers c k e
Link c (collects b) e = Collects c b e

-- the next call is given the record that stands, and the heap and slots as the call before left them
abbrev pub lent_next : Left → Lent
lent_next e = record { store = e.store; heap = e.heap; slots = e.slots }

abbrev pub Told : Lent → List Next → List Left → Type 0
Told c [] [] = Unit {0}
Told c (n ∷ ns) (e ∷ es) = Link c n e × Told (lent_next e) ns es
Told c [] (e ∷ es) = ⊥
Told c (n ∷ ns) [] = ⊥

-- what a caller sees of it
abbrev pub seen_of : Left → Seen
seen_of e = record { answer = said_of e.answer; store = store_of e.store }

-- slots all nil and the record of an empty store, over any heap words
abbrev pub empty_lent : List ℕ → ℕ → Lent
empty_lent heap n = record { store = record { top = 0; calls = 0 }; heap = heap; slots = replicate n nil_word }

-- ## One link is one step on paper
link_leaves : (c : Lent) (n : Next) (e : Left) → Link c n e → Leaves (lent_mem c) (step (lent_mem c) (step_of n)) e.answer e.heap e.slots
link_leaves c (calls k) e w = rw (← w.heap_lent, ← w.slots_lent, ← w.heap_left, ← w.slots_left) w.promised
link_leaves c (collects b) e w = rw (← w.heap_lent, ← w.slots_lent, ← w.heap_left, ← w.slots_left, ← w.brought) w.promised.leaves

link_store : (c : Lent) (n : Next) (e : Left) → Link c n e → e.store ≡ record_after c.store e.answer
link_store c (calls k) e w = w.store_left
link_store c (collects b) e w = w.store_left

record_is : (c : Lent) (r : Result (Answer Said) Refusal) → store_of (record_after c.store r) ≡ store_after (lent_mem c) r
record_is c (Ok a) = refl
record_is c (Err e) = refl

-- the memory after a link is that after the step
leaves_after : (c : Lent) (n : Next) (e : Left) → Link c n e → lent_mem (lent_next e) ≡ after (lent_mem c) (step (lent_mem c) (step_of n))
leaves_after c n e w =
    let l = link_leaves c n e w in
    let s = ap store_of (link_store c n e w) ∙ record_is c e.answer ∙ l.store_is in
    λ i. record { heap = l.heap_is i; slots = l.slots_are i; store = s i }

-- ## Every sequence has one chain of ends, and no other
-- an answer that says what the call on paper does
abbrev answer_to : (x : Answered (Did Mem)) → Listed x → Result (Answer Said) Refusal
answer_to (gives d) l = Ok (record { store = store_back d.state.store; said = said_back d.said })
answer_to (refused n p) (e, _, _) = Err e

leaves_some : (m : Mem) (x : Answered (Did Mem)) (l : Listed x) → Leaves m x (answer_to x l) (after m x).heap (after m x).slots
leaves_some m (gives d) l = record { answer_is = ap (λ a. gives a) (paper_back d.said); store_is = refl; heap_is = refl; slots_are = refl }
leaves_some m (refused n p) (e, f, g) = record { answer_is = ap₂ (λ a b. refused a b) f g; store_is = refl; heap_is = refl; slots_are = refl }

-- what the call on paper leaves
abbrev some : Lent → Next → Left
some c n =
    let m = lent_mem c in
    let x = step m (step_of n) in
    let r = answer_to x (step_listed m (step_of n)) in
    record { answer = r; store = record_after c.store r; heap = (after m x).heap; slots = (after m x).slots }

some_leaves : (c : Lent) (n : Next) → Leaves (lent_mem c) (step (lent_mem c) (step_of n)) (some c n).answer (some c n).heap (some c n).slots
some_leaves c n = let m = lent_mem c in leaves_some m (step m (step_of n)) (step_listed m (step_of n))

-- a reference to these words
abbrev lend : List ℕ → Bor (List ℕ)
lend ws = record { ref_ptr = (0, 0); now = ws }

abbrev lend_mut : List ℕ → MutBor (List ℕ)
lend_mut ws = record { ref_ptr = (0, 0); ghost_name = 0; now = ws }

-- what leaves e as the call on paper does is a link, by whatever function
pub leaves_link : (c : Lent) (k : Call) (e : Left) → e.store ≡ record_after c.store e.answer → Leaves (lent_mem c) (answered (lent_mem c) (call_of k)) e.answer e.heap e.slots → Answers c k e
leaves_link c k e s l = record {
  κs = ([], ([], tt));
  h = lend_mut c.heap;
  t = lend_mut c.slots;
  h' = lend_mut e.heap;
  t' = lend_mut e.slots;
  heap_lent = refl;
  slots_lent = refl;
  store_left = s;
  heap_left = refl;
  slots_left = refl;
  promised = l;
}

link_some : (c : Lent) (n : Next) → Link c n (some c n)
link_some c (calls k) = leaves_link c k (some c (calls k)) refl (some_leaves c (calls k))
link_some c (collects b) = record {
  κs = ([], ([], ([], ([], ([], ([], tt))))));
  h = lend_mut c.heap;
  t = lend_mut c.slots;
  m = lend_mut b.marks;
  order = lend b.order;
  l = lend_mut b.live;
  o = lend_mut b.offsets;
  h' = lend_mut (some c (collects b)).heap;
  t' = lend_mut (some c (collects b)).slots;
  m' = lend_mut (collection_of (lent_mem c) b).marks;
  l' = lend_mut (collection_of (lent_mem c) b).live;
  o' = lend_mut (collection_of (lent_mem c) b).offsets;
  heap_lent = refl;
  slots_lent = refl;
  brought = refl;
  store_left = refl;
  heap_left = refl;
  slots_left = refl;
  promised = record { leaves = some_leaves c (collects b); marks_are = refl; live_is = refl; offsets_are = refl };
}

pub told-some : (c : Lent) (ns : List Next) → (es : List Left) × Told c ns es
told-some c [] = ([], tt)
told-some c (n ∷ ns) = let (es, ws) = told-some (lent_next (some c n)) ns in (some c n ∷ es, (link_some c n, ws))

link_settled : (c : Lent) (n : Next) (e f : Left) → Link c n e → Link c n f → e ≡ f
link_settled c n e f v w =
    let q = leaves_settled (link_leaves c n e v) (link_leaves c n f w) in
    let s = link_store c n e v ∙ ap (record_after c.store) q.answers ∙ sym (link_store c n f w) in
    λ i. record { answer = q.answers i; store = s i; heap = q.heaps i; slots = q.slots_same i }

pub told_settled : (c : Lent) (ns : List Next) (es fs : List Left) → Told c ns es → Told c ns fs → es ≡ fs
told_settled c [] [] [] v w = refl
told_settled c (n ∷ ns) (e ∷ es) (f ∷ fs) (v, vs) (w, ws) =
    let q = link_settled c n e f v w in
    ap₂ ◌∷◌ q (told_settled (lent_next f) ns es fs (subst (λ (x : Left). Told (lent_next x) ns es) q vs) ws)
told_settled c [] [] (f ∷ fs) v w = absurd w
told_settled c [] (e ∷ es) fs v w = absurd v
told_settled c (n ∷ ns) [] fs v w = absurd v
told_settled c (n ∷ ns) (e ∷ es) [] v w = absurd w

-- ## Demand 3
pub told-run : (c : Lent) (ns : List Next) (es : List Left) → Told c ns es → map seen_of es ≡ run (lent_mem c) (map step_of ns)
unfolding run
told-run c [] [] w = refl
told-run c (n ∷ ns) (e ∷ es) (w, ws) =
    let l = leaves_after c n e w in
    ap₂ ◌∷◌ (λ i. record { answer = (link_leaves c n e w).answer_is i; store = (l i).store })
    (told-run (lent_next e) ns es ws ∙ ap (λ (m : Mem). run m (map step_of ns)) l)
told-run c [] (e ∷ es) w = absurd w
told-run c (n ∷ ns) [] w = absurd w

pub demand_three_told : (heap : List ℕ) (n : ℕ) (ns : List Next) (es : List Left) → Told (empty_lent heap n) ns es
    → map seen_of es ≡ run_list (empty_list (length heap) n) (map step_of ns)
demand_three_told heap n ns es w = told-run (empty_lent heap n) ns es w ∙ demand_three heap n (map step_of ns)

-- what an answer says is that of `saying`
said_saying : (r : Result (Answer Said) Refusal) → said_of r ≡ answer_of paper_said (saying r)
said_saying (Ok a) = refl
said_saying (Err e) = refl

-- ## What an ask at the end of a sequence tells
-- what is lent after it, and the simple list after it
abbrev pub lent_last : Lent → List Left → Lent
lent_last c [] = c
lent_last c (e ∷ es) = lent_last (lent_next e) es

abbrev pub list_last : Simple → List Step → Simple
list_last a [] = a
list_last a (k ∷ ks) = list_last (after a (step_list a k)) ks

told_same : (c : Lent) (a : Simple) (ns : List Next) (es : List Left) → Same (lent_mem c) a → Told c ns es → Same (lent_mem (lent_last c es)) (list_last a (map step_of ns))
told_same c a [] [] r w = r
told_same c a (n ∷ ns) (e ∷ es) r (w, ws) =
    let x = step_list a (step_of n) in
    told_same (lent_next e) (after a x) ns es (subst (λ (m : Mem). Same m (after a x)) (sym (leaves_after c n e w)) (step_same r (step_of n)).rel) ws
told_same c a [] (e ∷ es) r w = absurd w
told_same c a (n ∷ ns) [] r w = absurd w

module _ (heap : List ℕ) (n : ℕ) (ns : List Next) (es : List Left) (chain : Told (empty_lent heap n) ns es) where
  -- no answer is refusal 2 or 13
  pub never_two_or_thirteen_told : Each Neither (map seen_of es)
  never_two_or_thirteen_told = subst (Each Neither) (sym (told-run (empty_lent heap n) ns es chain)) (never_two_or_thirteen heap n (map step_of ns))

  abbrev pub list : Simple
  list = list_last (empty_list (length heap) n) (map step_of ns)

  now_same : Same (lent_mem (lent_last (empty_lent heap n) es)) list
  now_same = told_same (empty_lent heap n) (empty_list (length heap) n) ns es (empty_same heap n) chain

  module _ (s : ℕ) (e : Left) (asked : Answers (lent_last (empty_lent heap n) es) (Ask s) e) where
    leaves : Leaves (lent_mem (lent_last (empty_lent heap n) es)) (step (lent_mem (lent_last (empty_lent heap n) es)) (step_of (calls (Ask s)))) e.answer e.heap e.slots
    leaves = link_leaves (lent_last (empty_lent heap n) es) (calls (Ask s)) e asked

    says : {r : Result Said Refusal} → saying e.answer ≡ r → answer_of paper_said r ≡ said (step (lent_mem (lent_last (empty_lent heap n) es)) (step_of (calls (Ask s))))
    says q = ap (answer_of paper_said) (sym q) ∙ sym (said_saying e.answer) ∙ leaves.answer_is

    -- a slot said to hold an integer holds it, and no object
    pub integer-told : (z : ℤ) → saying e.answer ≡ Ok (Integer z) → held list s ≡ int z
    integer-told z q = asked-integer now_same s z (sym (says q))

    -- a slot said to hold an object of k words holds one, and no integer
    pub object-told : (k : ℕ) → (saying e.answer ≡ Ok (Record k)) ⊎ (saying e.answer ≡ Ok (Raw k)) → (i : ℕ) × (held list s ≡ ref i) × (words (the list.objects i) ≡ suc k)
    object-told k (inl q) = asked-object now_same s k (inl (sym (says q)))
    object-told k (inr q) = asked-object now_same s k (inr (sym (says q)))

    -- and a slot that holds an integer or an object is said to
    module _ (small : fits (view_list list) ≡ true) (there : s < length list.slots) where
      pub integer-said : (z : ℤ) → held list s ≡ int z → saying e.answer ≡ Ok (Integer z)
      integer-said z q = said_one (saying e.answer) (Ok (Integer z)) (says refl ∙ integer-asked now_same s z small there q)

      pub object-said : (i : ℕ) → held list s ≡ ref i → said_of e.answer ≡ gives (say_born (the list.objects i))
      object-said i q = leaves.answer_is ∙ object-asked now_same s i small there q
