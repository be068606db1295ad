-- What is printed of what an accepted call says.
use Rattle.std.specs.Prelude.{ℕ, Bool, true, false, List, ◌++◌, codes}
use Rattle.std.specs.Fmt.{decimal, signed_decimal}
use Rattle.store.specs.declared.Said.{Said}
use Rattle.store.specs.declared.Said.TheVariants.{Done, Integer, Nil, Record, Raw, Word, Same, Collected}

abbrev pub yes_or_no : Bool → List ℕ
yes_or_no true = codes "true"
yes_or_no false = codes "false"

abbrev pub text_of : Said → List ℕ
text_of Done = codes "done"
text_of (Integer z) = codes "integer " ++ signed_decimal z
text_of Nil = codes "nil"
text_of (Record n) = codes "record " ++ decimal n
text_of (Raw n) = codes "raw " ++ decimal n
text_of (Word w) = codes "word " ++ decimal w
text_of (Same b) = codes "same " ++ yes_or_no b
text_of (Collected top objects blocks) = codes "collected " ++ decimal top ++ codes " " ++ decimal objects ++ codes " " ++ decimal blocks
