-- The images of the table print what they should, the whole case among them. Assumes nothing.
use mathlib.Core.Path.{refl}
use Rattle.meaning.specs.Places.{below, up_to, marked}
use Rattle.meaning.specs.Objects.{parse}
use Rattle.meaning.specs.Slide.{slide, header_at, live_at, field_at}
use Rattle.meaning.specs.Blocks.{order_breaks}
use Rattle.meaning.specs.Collect.{checked, collect}
use Rattle.meaning.specs.Text.{digits, spaced, refused_line, ok_line, words_line}
use Rattle.meaning.specs.Image.{word_at, contents_of, judged_contents, collection_of, printed}
use Rattle.meaning.specs.PrintedCases.{printed_cases}
use Rattle.meaning.proofs.CallCasesHold.{Hold}

pub printed_cases_hold : Hold printed_cases
unfolding printed_cases printed judged_contents contents_of word_at collection_of digits spaced refused_line ok_line words_line below up_to marked parse slide header_at live_at field_at order_breaks checked collect
printed_cases_hold = (refl, (refl, (refl, (refl, (refl, (refl, (refl, (refl, (refl, (refl, (refl, (refl, (refl, (refl, (refl, tt)))))))))))))))
