-- The line that `cbtext` puts is that of the answer: only a page complete has one.
use Rattle.laws.proofs.Base.{◌≡◌, sym, ◌∙◌, true, ◌/◌, arith}
use Rattle.sizes.specs.Paper.{whole_blocks}
use Rattle.block.specs.Paper as block
use Rattle.lines.proofs.Behind.{puts_none, puts_wider}
use Rattle.lines.proofs.Texts.{length_all, puts_all}
use Rattle.cbtext.specs.Inner.{page_texts}
use Rattle.cbtext.proofs.Body.{flat_page}
use Rattle.cbtext.proofs.Handed.{line_complete, line_none}
use Rattle.cbtext.proofs.Wide.{page_wide}
use Rattle.cbtext.proofs.PagesListingROOM.put_line.Goals as goal

pub returns-then-answer-ne0-clause-put : goal.returns-then-answer-ne0-clause-put
returns-then-answer-ne0-clause-put c g a =
    rw (line_none a c.args.number c.if-answer-ne0.true) (puts_wider 358 (omega arith) (puts_none c.args.lines.now.end c.args.lines.now.memory.now))

pub put_page-requires : goal.put_page-requires
put_page-requires c =
    let a = c.requires.0.1 in
    rw a.received (a.complete block.page (sym a.number ∙ c.if-answer-ne0.false)).blocks

pub returns-clause-put : goal.returns-clause-put
returns-clause-put c g a =
    let received = c.args.answer / 256 in
    let blocks : whole_blocks received ≡ true = rw a.received (a.complete block.page (sym a.number ∙ c.if-answer-ne0.false)).blocks in
    rw (line_complete a c.args.number c.if-answer-ne0.false, ← flat_page c.args.number c.args.message.now received)
    (puts_all (page_texts _ _ _) _ _ 358 c.put_page.ensures.put (page_wide c.args.number c.args.message.now received blocks) c.requires.1)

pub returns-clause-size : goal.returns-clause-size
returns-clause-size c = length_all _ _ _ c.put_page.ensures.put
