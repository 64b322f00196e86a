-- `put_lines`: the part of the line that is cut out is its tag, so the rows' lines are those of the rules. Assumes nothing.
use Rattle.std.proofs.Common.{◌≡◌, ◌∙◌, ℕ, List, ap, sym, arith, length, take, length-take-le}
use Rattle.line_put.specs.Writes.{writes_as}
use Rattle.line_found.specs.Telling.{texts}
use Rattle.search_lines.specs.Lines.{texts_cut}
use Rattle.search_lines.proofs.put_lines.Goals as goal

pub slice_bounds-put_rows-end : goal.slice_bounds-put_rows-end
slice_bounds-put_rows-end c = sym (length-take-le _ _ c.tag_length-end.ensures.within)

pub put_rows-requires : goal.put_rows-requires
put_rows-requires c =
    let l = length-take-le c.tag_length-end.result c.args.text.now c.tag_length-end.ensures.within in
    let r : length (take c.args.hits.rows c.args.rows.now) ≡ c.args.hits.rows = length-take-le c.args.hits.rows c.args.rows.now c.requires.1.in_rows in
    let few = c.requires.1.few in
    let s = c.requires.1.in-starts in
    let k = c.requires.1.in-counts in
    ((c.requires.0.0, c.requires.0.1, omega arith), (omega arith, omega arith, omega arith), (c.requires.1.room, rw r c.requires.1.bounded))

pub returns-clause-put : goal.returns-clause-put
returns-clause-put c =
    let r : length (take c.args.hits.rows c.args.rows.now) ≡ c.args.hits.rows = length-take-le c.args.hits.rows c.args.rows.now c.requires.1.in_rows in
    let lines : List ℕ → List ℕ = λ t. texts t c.args.cols.now c.args.rows.now c.args.hits.wanted c.args.uids.now c.args.starts.now c.args.counts.now c.args.hits.rows in
    writes_as (rw r at c.put_rows.ensures.put) (texts_cut _ c.args.cols.now c.args.rows.now c.args.hits.wanted c.args.uids.now c.args.starts.now c.args.counts.now c.args.hits.rows c.args.hits.rows (omega arith) ∙ ap lines c.tag_length-end.ensures.exact)

pub returns-clause-upper_bound : goal.returns-clause-upper_bound
returns-clause-upper_bound c =
    let r : length (take c.args.hits.rows c.args.rows.now) ≡ c.args.hits.rows = length-take-le c.args.hits.rows c.args.rows.now c.requires.1.in_rows in
    let few = c.requires.1.few in
    let u = c.put_rows.ensures.upper_bound in
    omega arith
