-- The text is checked once, and then walked over.
use Prim.Native.Nat.{◌≤◌}
use native.Mathlib.Omega.{arith}
use mathlib.Core.Path.{◌≡◌}
use lib.ListN.{length}
use Rattle.std.specs.Prelude.{Some, None}
use Rattle.std.proofs.lemmas.Result.{err_from_is_err_and}
use Rattle.answers.specs.declared.Refusal.TheVariants.{BadCatalogue}
use Rattle.pack_walk.proofs.Going.{known_alike, from_alike}
use Rattle.walking.proofs.Asked.{right_told, wrong_told, known_packs, refused_catalogue, walks_all}
use Rattle.walking.proofs.walk_over.Goals as goal

pub walk_from-requires : goal.walk_from-requires
walk_from-requires c =
    let some : c.check.result ≡ Some c.in_ok-count.count = grind arith in
    let told = right_told c.check.ensures some in
    let room : 768 ≤ length c.check.new.index = omega (arith, c.check.auto.index) in
    (known_alike c.check.auto.links c.check.auto.params (known_packs told room), c.requires)

pub returns-in_err-count : goal.returns-in_err-count
returns-in_err-count c =
    let g = c.args in
    let p = err_from_is_err_and c.from_residual.result c.from_residual.ensures.1 in
    let none : c.check.result ≡ None = grind arith in
    let why : c.in_err-count.field-0.0 ≡ BadCatalogue = grind arith in
    rw (p.1, p.2, why)
    (refused_catalogue g.catalogue.now g.links.now g.params.now g.work.now g.start.0 g.way g.steps (wrong_told c.check.ensures none))

pub returns : goal.returns
returns c =
    let g = c.args in
    let some : c.check.result ≡ Some c.in_ok-count.count = grind arith in
    let told = right_told c.check.ensures some in
    let room : 768 ≤ length c.check.new.index = omega (arith, c.check.auto.index) in
    walks_all g.catalogue.now g.links.now g.params.now g.work.now g.start.0 g.way g.steps told room
    (from_alike c.check.auto.links c.check.auto.params c.walk_from.ensures)
