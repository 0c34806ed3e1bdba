-- Each set by the tests of its octets.
use mathlib.Core.Bool.{false}
use lib.Dec.{eqb}
use Rattle.components.proofs.Ends.{joined}
use Rattle.components.proofs.stops_at.Goals as goal

pub returns-in-Scheme : goal.returns-in-Scheme
returns-in-Scheme c =
    let x = c.args.c in
    rw c.in-Scheme.is (joined (eqb x 58) (eqb x 47) (eqb x 63) (eqb x 35))

pub returns-in-Authority : goal.returns-in-Authority
returns-in-Authority c =
    let x = c.args.c in
    rw c.in-Authority.is (joined false (eqb x 47) (eqb x 63) (eqb x 35))

pub returns-in-Path : goal.returns-in-Path
returns-in-Path c =
    let x = c.args.c in
    rw c.in-Path.is (joined false false (eqb x 63) (eqb x 35))

pub returns-in-Query : goal.returns-in-Query
returns-in-Query c =
    let x = c.args.c in
    rw c.in-Query.is (joined false false false (eqb x 35))
