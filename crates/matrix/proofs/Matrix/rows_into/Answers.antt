-- `matrix::Matrix::rows_into` meets its contract: the sums of its rows, at the places of the matrix or of the transposed one, all of them reduced.
use Rattle.std.proofs.Common.{◌*◌, arith}
use Rattle.packing.specs.Packing.{unpacked}
use Rattle.matrix.specs.Laws.Rows.{rows_values, rows_last}
use Rattle.matrix.proofs.Matrix.rows_into.Goals as goal

pub sums_into-requires : goal.sums_into-requires
sums_into-requires c =
    let m = c.args.self.now in
    let p = c.requires in
    record {
      least = omega arith;
      most = omega arith;
      some = p.some;
      few = omega (arith, p.few);
      count = m.l * m.l;
      whole = m.whole;
      last = λ j h. rows_last m.transposed m.l c.strides-row.ensures.row c.strides-row.ensures.column c.args.first c.args.rows j p.some p.within h;
      vector = p.vector;
      cut_long = p.cut_long;
      scratch = omega (arith, p.scratch, p.few);
      fits = p.fits;
    }

pub returns : goal.returns
returns c =
    let m = c.args.self.now in
    rows_values m.transposed m.l c.strides-row.ensures.row c.strides-row.ensures.column c.args.first c.args.rows (unpacked 13 m.packed.now) c.args.s.now
    {acc = c.sums_into.new.out} c.sums_into.ensures c.reduce.ensures
