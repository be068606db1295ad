-- `answer` meets its contract: contents refused, or the report on the image. Assumes nothing.
use mathlib.Core.Path.{sym}
use borrow.Author.Rules.{rules}
use Rattle.image.proofs.Accepted.{accepted}
use Rattle.report.proofs.Reporting.{reports_unfit, reports_good}
use Rattle.report.proofs.answer.Goals as goal

pub put_image-requires : goal.put_image-requires
put_image-requires c = (accepted _ _ (sym c.in-Ok.ensures), search rules, search rules)

pub returns-in-Err-clause-reports : goal.returns-in-Err-clause-reports
returns-in-Err-clause-reports c = reports_unfit _ c.args.marks.now c.in-Err.ensures c.put_refusal.ensures

pub returns-in-Ok-clause-reports : goal.returns-in-Ok-clause-reports
returns-in-Ok-clause-reports c = reports_good _ c.args.marks.now c.in-Ok.ensures c.put_image.ensures
