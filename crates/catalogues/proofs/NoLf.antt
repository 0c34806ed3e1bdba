-- No Link value that RFC 8288's edition reads has an LF in it: an LF kills the machine in every state. Assumes nothing.
use Prim.Native.Nat.{ℕ, suc}
use native.Mathlib.Omega.{arith}
use mathlib.Core.Path.{◌≡◌, refl, ap, subst, ◌∙◌}
use mathlib.Core.Bool.{Bool, true, false}
use mathlib.Core.List.{List, [], ◌∷◌}
use mathlib.Core.Option.{none, some}
use lib.Dec.{eqb}
use lib.ListN.{length}
use borrow.Author.Tests.{eqb-true}
use Rattle.octets.specs.Sets.{one_of, is_blank, is_token, is_plain, is_escapable, is_target, is_hex}
use Rattle.octets.specs.Editions.{further}
use Rattle.octets.specs.declared.editions.Edition.TheVariants.{Rfc8288}
use Rattle.references.proofs.Clear.{Free}
use Rattle.grammar.specs.Link.{Link}
use Rattle.grammar.specs.Kept.{Reading}
use Rattle.grammar.specs.Machine.{
  State,
  gap,
  target,
  percent,
  hex,
  after,
  semi,
  name,
  named,
  equals,
  bare,
  wide,
  quote,
  escape,
  dead,
  step,
  run,
  finish,
}
use Rattle.grammar.proofs.Editions.{apart}
use Rattle.grammar.proofs.Exact.{derived_read}
use Rattle.grammar.proofs.Prefix.{run_dead}

abbrev none_further : ℕ → Bool
none_further = further Rfc8288

dies : (st : State) (i : ℕ) → step none_further st i 10 ≡ dead
unfolding is_blank is_token is_plain is_escapable is_target is_hex
dies (gap ls) i = refl
dies (target ls a) i = refl
dies (percent ls a) i = refl
dies (hex ls a) i = refl
dies (after o) i = refl
dies (semi o) i = refl
dies (name o n) i = refl
dies (named o n e) i = refl
dies (equals o n e) i = refl
dies (bare o n e v) i = refl
dies (wide o n e v) i = refl
dies (quote o n e v) i = refl
dies (escape o n e v) i = refl
dies dead i = refl

read_free : (t : List ℕ) (st : State) (i n : ℕ) {R : List Link} → finish (run none_further st i t) n ≡ some R → Free (10 ∷ []) t
read_free [] st i n e = tt
read_free (c ∷ t) st i n {R} e = go (eqb c 10) refl (read_free t (step none_further st i c) (suc i) n e)
  where
    go : (b : Bool) → eqb c 10 ≡ b → Free (10 ∷ []) t → Free (10 ∷ []) (c ∷ t)
    go true q rest =
        let dead_here : step none_further st i c ≡ dead = ap (step none_further st i) (eqb-true c 10 q) ∙ dies st i in
        let died : run none_further (step none_further st i c) (suc i) t ≡ dead =
        ap (λ (x : State). run none_further x (suc i) t) dead_here ∙ run_dead none_further t (suc i)
        in
        let none_read : none ≡ some R = subst (λ (x : State). finish x n ≡ some R) died e in
        let z : ◌≡◌ {A = ℕ} 0 1 = cc in
        absurd (omega arith)
    go false q rest = (rw q refl, rest)

pub value_free : {s : List ℕ} {K : List Link} → Reading (further Rfc8288) s K → Free (10 ∷ []) s
value_free {s} r = read_free s (gap []) 0 (length s) (derived_read none_further (apart Rfc8288) s r.derived)
