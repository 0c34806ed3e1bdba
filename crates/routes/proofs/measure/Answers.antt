use native.Mathlib.Omega.{arith}
use mathlib.Core.Path.{ap, ◌∙◌}
use Rattle.resolution.specs.declared.Walk.{Walk}
use Rattle.routes.proofs.Laying.{path_kept, path_small, front_small, tail_small, laid_length}
use Rattle.routes.proofs.measure.Goals as goal

pub overflow_add-behind_path : goal.overflow_add-behind_path
overflow_add-behind_path c =
    let asked = c.requires in
    let given = c.args in
    omega (
      arith,
      c.bare_len.ensures,
      front_small given.base.now given.s.now given.r asked.0 asked.2,
      asked.0.head,
      asked.1,
    )

pub overflow_add-behind_path-2 : goal.overflow_add-behind_path-2
overflow_add-behind_path-2 c =
    let left-of-path' = c.left_of_path-path in
    let asked = c.requires in
    let given = c.args in
    let base = given.base.now in
    let s = given.s.now in
    let r = given.r in
    let k = ap (λ (t : Walk). t.kept) left-of-path'.ensures ∙ path_kept base s r asked.0 in
    omega (
      arith,
      c.bare_len.ensures,
      front_small base s r asked.0 asked.2,
      k,
      path_small base s r asked.0 asked.2
          asked.1,
      asked.0.head,
      asked.1,
    )

pub returns : goal.returns
returns c =
    let bare-len' = c.bare_len in
    let left-of-path' = c.left_of_path-path in
    let asked = c.requires in
    let given = c.args in
    let base = given.base.now in
    let s = given.s.now in
    let r = given.r in
    let k = ap (λ (t : Walk). t.kept) left-of-path'.ensures ∙ path_kept base s r asked.0 in
    record {
      path = omega (arith, bare-len'.ensures, k);
      whole = omega (arith, bare-len'.ensures, c.bare_len-2.ensures, k, laid_length base s r asked.0);
    }

pub overflow_add-result : goal.overflow_add-result
overflow_add-result c =
    let asked = c.requires in
    let given = c.args in
    let base = given.base.now in
    let s = given.s.now in
    let r = given.r in
    let k = ap (λ (t : Walk). t.kept) c.left_of_path-path.ensures ∙ path_kept base s r asked.0 in
    omega (
      arith,
      c.bare_len.ensures,
      c.bare_len-2.ensures,
      front_small base s r asked.0 asked.2,
      tail_small base s r asked.0 asked.2,
      k,
      path_small base s r asked.0 asked.2 asked.1,
      asked.0.head,
      asked.1,
    )
