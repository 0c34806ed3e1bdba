-- The parts go one behind another, the path up to where it ends.
use native.Mathlib.Omega.{arith}
use Rattle.routes.proofs.InOrder as o
use Rattle.routes.proofs.put_result.Goals as goal

pub put_part-behind-requires : goal.put_part-behind-requires
put_part-behind-requires c =
    let given = c.args in record {
      in_text = record { ordered = omega arith; inside = c.requires.lies.0.head };
      s_in_bounds = o.head_room given.base.now given.s.now given.out.now
          given.r given.n c.requires.lies.0 c.requires.measured.0 c.requires.measured.1;
    }

pub put_bare-requires : goal.put_bare-requires
put_bare-requires c =
    let put-part' = c.put_part-behind in
    let given = c.args in
    let w = o.head_put given.base.now given.s.now given.out.now given.r given.n c.requires.lies.0 c.requires.measured.0
    c.requires.measured.1 put-part'.ensures in (
      c.requires.lies.0.front,
      o.front_room given.base.now given.s.now given.out.now given.r given.n c.requires.lies.0
          c.requires.measured.0 c.requires.measured.1 w,
    )

pub put_bare-requires-2 : goal.put_bare-requires-2
put_bare-requires-2 c =
    let put-path' = c.put_path in
    let put-bare' = c.put_bare in
    let put-part' = c.put_part-behind in
    let given = c.args in
    let w = o.head_put given.base.now given.s.now given.out.now given.r given.n c.requires.lies.0 c.requires.measured.0
    c.requires.measured.1 put-part'.ensures in
    let v = o.front_put given.base.now given.s.now given.out.now given.r given.n c.requires.lies.0 c.requires.measured.0
    c.requires.measured.1 w put-bare'.ensures in
    let u = o.path_put given.base.now given.s.now given.out.now given.r given.n c.requires.lies.0 c.requires.measured.0
    c.requires.measured.1 v put-path'.ensures in (
      c.requires.lies.0.tail,
      o.tail_room given.base.now given.s.now given.out.now given.r given.n c.requires.lies.0 c.requires.measured.0
          c.requires.measured.1 u,
    )

pub returns : goal.returns
returns c =
    let put-bare2' = c.put_bare-2 in
    let put-path' = c.put_path in
    let put-bare' = c.put_bare in
    let put-part' = c.put_part-behind in
    let given = c.args in
    let w = o.head_put given.base.now given.s.now given.out.now given.r given.n c.requires.lies.0 c.requires.measured.0
    c.requires.measured.1 put-part'.ensures in
    let v = o.front_put given.base.now given.s.now given.out.now given.r given.n c.requires.lies.0 c.requires.measured.0
    c.requires.measured.1 w put-bare'.ensures in
    let u = o.path_put given.base.now given.s.now given.out.now given.r given.n c.requires.lies.0 c.requires.measured.0
    c.requires.measured.1 v put-path'.ensures in
    o.tail_put given.base.now given.s.now given.out.now given.r given.n c.requires.lies.0 c.requires.measured.0 c.requires.measured.1 u
    put-bare2'.ensures
