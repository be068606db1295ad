-- Demand 3: from the empty store, any sequence of calls answers as the simple list of objects in order of birth does. Assumes nothing.
use mathlib.Core.Path.{◌≡◌, refl, sym, ap₂}
use mathlib.Core.List.{List, [], ◌∷◌}
use Prim.Native.Nat.{ℕ}
use native.Mathlib.Omega.{arith}
use lib.ListN.{length}
use Rattle.meaning.specs.Values.{nil}
use Rattle.meaning.specs.Store.{Mem}
use Rattle.meaning.specs.SimpleList.{Simple, place, no_value}
use Rattle.meaning.specs.Sequences.{Step, call, collect, step, step_list, run, run_list, store_of, empty, empty_list}
use Rattle.meaning.proofs.Births.{value_word, Good, map-replicate, replicate_all}
use Rattle.meaning.proofs.SameStore.{Same, Both}
use Rattle.meaning.proofs.CallsSame.{answered_same}
use Rattle.meaning.proofs.CollectsSame.{collects_same}

pub step_same : {c : Mem} {a : Simple} → Same c a → (k : Step) → Both c a (step c k) (step_list a k)
step_same r (call k) = answered_same r k
step_same r (collect b) = collects_same r b

store_same : {c : Mem} {a : Simple} → Same c a → c.store ≡ store_of a
store_same r = λ i. record { top = r.at_top i; calls = r.calls i }

pub run_same : (ks : List Step) {c : Mem} {a : Simple} → Same c a → run c ks ≡ run_list a ks
unfolding run run_list
run_same [] r = refl
run_same (k ∷ ks) r =
    let b = step_same r k in
    ap₂ ◌∷◌ (λ i. record { answer = b.same i; store = store_same b.rel i }) (run_same ks b.rel)

pub empty_same : (heap : List ℕ) (n : ℕ) → Same (empty heap n) (empty_list (length heap) n)
empty_same heap n =
    record {
      room = refl;
      fits = omega arith;
      at_top = refl;
      calls = refl;
      below = refl;
      slots = sym (map-replicate (value_word (place [])) n nil);
      counts = λ i. omega arith;
      fields = λ i k. refl;
      held = replicate_all (Good []) n nil no_value tt refl;
    }

pub demand_three : (heap : List ℕ) (n : ℕ) (ks : List Step) → run (empty heap n) ks ≡ run_list (empty_list (length heap) n) ks
demand_three heap n ks = run_same ks (empty_same heap n)
