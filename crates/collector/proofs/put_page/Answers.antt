-- `collector::put_page` meets its contract: the octets received and the page behind them are put at the page's place.
use Rattle.collector.proofs.Places.{put_copied}
use Rattle.std.proofs.Common.{rules}
use Rattle.collector.proofs.put_page.Goals as goal

pub returns : goal.returns
returns c =
    let first = c.copy in
    put_copied c.args.page.now first.new.to (search rules) first.ensures
    c.args.collector.now c.copy-2.new.to c.args.i c.args.received (search rules) c.requires c.copy-2.ensures
