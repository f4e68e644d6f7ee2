-- `plan_read::front_answer` meets its contract: each return is the first test that holds.
use Rattle.laws.proofs.Base.{◌≡◌, sym, ◌∙◌, true, List, ℕ}
use Rattle.plan_read.specs.Paper.{sixteen, is_marked}
use Rattle.plan_read.proofs.Answers.{front_short, front_mark, front_version, front_count, front_length, front_good}
use Rattle.plan_read.proofs.front_answer.Goals as goal

pub returns-then-file-lt-FRONT : goal.returns-then-file-lt-FRONT
returns-then-file-lt-FRONT c = sym (front_short c.args.file.now c.if-file-lt-FRONT.true)

pub returns-then-not-is_marked : goal.returns-then-not-is_marked
returns-then-not-is_marked c =
    let file : List ℕ = c.args.file.now in
    sym (front_mark file c.if-file-lt-FRONT.false (sym c.is_marked.ensures ∙ c.if-not-is_marked.true))

pub returns-then-sixteen_at-ne1 : goal.returns-then-sixteen_at-ne1
returns-then-sixteen_at-ne1 c =
    let file : List ℕ = c.args.file.now in
    let mark : is_marked file ≡ true = sym c.is_marked.ensures ∙ c.if-not-is_marked.false in
    sym (front_version file c.if-file-lt-FRONT.false mark (λ e. c.if-sixteen_at-ne1.true (c.sixteen_at.ensures ∙ e)))

pub returns-then-count-gt-SLOTS : goal.returns-then-count-gt-SLOTS
returns-then-count-gt-SLOTS c =
    let file : List ℕ = c.args.file.now in
    let mark : is_marked file ≡ true = sym c.is_marked.ensures ∙ c.if-not-is_marked.false in
    let version : sixteen file 4 ≡ 1 = sym c.sixteen_at.ensures ∙ c.if-sixteen_at-ne1.false in
    sym (front_count file c.if-file-lt-FRONT.false mark version c.if-count-gt-SLOTS.true)

pub returns-then-file-count : goal.returns-then-file-count
returns-then-file-count c =
    let file : List ℕ = c.args.file.now in
    let mark : is_marked file ≡ true = sym c.is_marked.ensures ∙ c.if-not-is_marked.false in
    let version : sixteen file 4 ≡ 1 = sym c.sixteen_at.ensures ∙ c.if-sixteen_at-ne1.false in
    sym (front_length file c.if-file-lt-FRONT.false mark version c.if-count-gt-SLOTS.false c.if-file-count.true)

pub returns : goal.returns
returns c =
    let file : List ℕ = c.args.file.now in
    let mark : is_marked file ≡ true = sym c.is_marked.ensures ∙ c.if-not-is_marked.false in
    let version : sixteen file 4 ≡ 1 = sym c.sixteen_at.ensures ∙ c.if-sixteen_at-ne1.false in
    sym (front_good file c.if-file-lt-FRONT.false mark version c.if-count-gt-SLOTS.false c.if-file-count.false)
