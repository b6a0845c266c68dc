use Rattle.qbf_core.proofs.Cited.{rules, ap, ◌∙◌, ◌≡◌, ◌+◌, ◌-◌, ◌≤◌, arith, length, take, IsWritten, Literal}
use Rattle.lists.specs.Lists.{count_items, Growing}
use Rattle.qbf_core.proofs.WrittenLiterals.{all_four, all_whole, four_more, whole_put, if_put}
use Rattle.qbf_core.proofs.written_literals.put_fours.Goals as goal

pub fours-preserved : goal.fours-preserved
fours-preserved c = search (rules, four_more, all_four)

pub returns-clause-put : goal.returns-clause-put
returns-clause-put c =
    let xs = c.args.numbers.now in
    let old = c.args.lists.now.unfinished in
    let now = c.fours.lists.unfinished in
    let i = c.fours.invariant in
    let last = length xs - 4 in
    let passed : last ≤ c.fours.place = omega (arith, c.fours-test.false) in
    let many : last + 4 ≡ length xs = omega (arith, c.requires.many) in
    let whole = ap count_items i.whole in
    let same : c.items_len-start.result + last - count_items c.fours.lists.whole ≡ length old + last =
    omega (arith, c.items_len-start.ensures.value, whole) in
    let cut = ap (λ (g : Growing Literal). g.unfinished) c.shorten.ensures ∙ ap (λ n. take n now) same in
    if_put c.put_four-2.result c.put_four-2.ensures.put (λ four. record {
      put = whole_put old now c.shorten.new.self.unfinished c.put_four-2.new.lists.unfinished xs last c.fours.place passed many i.put cut four.put;
      written = all_whole (IsWritten c.args.last) xs last c.fours.place passed many i.written four.written;
    })
