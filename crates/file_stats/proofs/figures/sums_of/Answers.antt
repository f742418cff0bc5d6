use Rattle.std.proofs.Common.{◌^◌, ◌<◌, take, get_or, arith}
use Rattle.std.proofs.lemmas.List.{length-take}
use Rattle.std.proofs.lemmas.List.Elements.{All-more}
use Rattle.std.proofs.lemmas.List.Sums.{sum_by_more}
use Rattle.file_stats.specs.Classes.{no_row}
use Rattle.file_stats.proofs.Kept.{bytes-fit}
use Rattle.file_stats.proofs.figures.sums_of.Goals as goal

pub overflow_add-bytes : goal.overflow_add-bytes
overflow_add-bytes c =
    let most = bytes-fit (take c.loop-row.row-index c.args.rows.now) c.loop-row.invariant.fit in
    omega (arith, most, length-take c.loop-row.row-index c.args.rows.now, c.loop-row.invariant.bytes, c.from-bytes.ensures)

pub overflow_add-live : goal.overflow_add-live
overflow_add-live c =
    let most = bytes-fit (take c.loop-row.row-index c.args.rows.now) c.loop-row.invariant.fit in
    let within = c.requires c.loop-row.row-index no_row c.loop-row-test.true in
    omega (arith, most, length-take c.loop-row.row-index c.args.rows.now, c.loop-row.invariant.bytes, c.loop-row.invariant.lower, c.from-bytes.ensures, c.from-live.ensures, within)

pub loop-row-preserved : goal.loop-row-preserved
loop-row-preserved c =
    let within = c.requires c.loop-row.row-index no_row c.loop-row-test.true in
    let fits : (get_or c.args.rows.now c.loop-row.row-index no_row).size < 2 ^ 64 = omega arith in
    record {
      bytes = omega (arith, c.loop-row.invariant.bytes, c.from-bytes.ensures, sum_by_more (λ row. row.size) c.args.rows.now c.loop-row.row-index no_row c.loop-row-test.true);
      live = omega (arith, c.loop-row.invariant.live, c.from-live.ensures, sum_by_more (λ row. row.live) c.args.rows.now c.loop-row.row-index no_row c.loop-row-test.true);
      lower = omega (arith, c.loop-row.invariant.lower, c.from-bytes.ensures, c.from-live.ensures, within);
      fit = All-more (λ row. row.size < 2 ^ 64) c.args.rows.now c.loop-row.row-index no_row c.loop-row-test.true c.loop-row.invariant.fit fits;
    }
