-- Sequences of calls from the empty store, on the words and on the simple list: the answer to each call and the record after it.
use Rattle.std.specs.Prelude.{ℕ, List, [], ◌∷◌, replicate}
use Rattle.meaning.specs.Answers.{Answer, gives, refused}
use Rattle.meaning.specs.Values.{nil, nil_word}
use Rattle.meaning.specs.Calls.{Call, Brought, Said, Did}
use Rattle.meaning.specs.Store.{Store, Mem, answered, collects}
use Rattle.meaning.specs.SimpleList.{Simple, in_use, answered_list}
use Rattle.meaning.specs.ListCollect.{collects_list}

pub data Step : Type 0 where
  call : Call → Step
  collect : Brought → Step

-- what a caller sees
pub record Seen : Type 0 where
  pub answer : Answer Said
  pub store : Store

-- what an answer says, and the state after it; a refused call leaves it
abbrev pub said : {S : Type 0} → Answer (Did S) → Answer Said
said (refused n p) = refused n p
said (gives d) = gives d.said

abbrev pub after : {S : Type 0} → S → Answer (Did S) → S
after s (refused n p) = s
after s (gives d) = d.state

abbrev pub step : Mem → Step → Answer (Did Mem)
step m (call c) = answered m c
step m (collect b) = collects m b

abbrev pub step_list : Simple → Step → Answer (Did Simple)
step_list a (call c) = answered_list a c
step_list a (collect b) = collects_list a b

unfoldable pub run : Mem → List Step → List Seen
run m [] = []
run m (k ∷ ks) = record { answer = said (step m k); store = (after m (step m k)).store } ∷ run (after m (step m k)) ks

-- the list's record: words in use, and the calls answered
abbrev pub store_of : Simple → Store
store_of a = record { top = in_use a.objects; calls = a.calls }

unfoldable pub run_list : Simple → List Step → List Seen
run_list a [] = []
run_list a (k ∷ ks) = record { answer = said (step_list a k); store = store_of (after a (step_list a k)) } ∷ run_list (after a (step_list a k)) ks

-- the empty store over any heap words, n slots all nil
abbrev pub empty : List ℕ → ℕ → Mem
empty heap n = record { heap = heap; slots = replicate n nil_word; store = record { top = 0; calls = 0 } }

abbrev pub empty_list : ℕ → ℕ → Simple
empty_list room n = record { room = room; objects = []; slots = replicate n nil; calls = 0 }
