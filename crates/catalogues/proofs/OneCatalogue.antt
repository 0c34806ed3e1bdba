-- A text is a catalogue of one list of packs at most. Assumes nothing.
use native.Mathlib.Omega.{arith}
use mathlib.Core.Path.{◌≡◌, sym, ap, ◌∙◌}
use mathlib.Core.List.{List, [], ◌∷◌, ◌++◌, append-nil}
use lib.ListN.{length, length-append}
use Rattle.tables.specs.Good.{Each}
use Rattle.catalogues.specs.Packs.{Pack, Room, RightPack, lines_of}
use Rattle.catalogues.specs.Laws.{OneCatalogue}
use Rattle.catalogues.proofs.Lines.{lines_left}

-- each of two lists begins with the other
both_begin : (ps qs more less : List Pack) → qs ≡ ps ++ more → ps ≡ qs ++ less → ps ≡ qs
both_begin ps qs [] less a b = sym (a ∙ append-nil ps)
both_begin ps qs (p ∷ more) less a b =
    absurd (omega (arith, ap length a, ap length b, length-append ps (p ∷ more), length-append qs less))

-- the same lines are lines of the same packs
pub same_packs : {room other : Room} {ps qs : List Pack} → Each (RightPack room) ps → Each (RightPack other) qs
    → lines_of ps ≡ lines_of qs → ps ≡ qs
same_packs {ps = ps} {qs = qs} a b e =
    let there = lines_left {x = []} a b (append-nil (lines_of ps) ∙ e) in
    let back = lines_left {x = []} b a (append-nil (lines_of qs) ∙ sym e) in
    both_begin ps qs there.packs back.packs there.all back.all

pub one_catalogue : OneCatalogue
one_catalogue room text ps qs a b = same_packs a.right b.right (sym a.lines ∙ b.lines)
