-- Every number of a derivable header is an octet: a number past 255 is in no set, and kills the machine in every state.
use Prim.Native.Nat.{ℕ, suc, ◌<◌}
use native.Mathlib.Omega.{arith}
use mathlib.Core.Path.{◌≡◌, refl, sym, ap, subst, ◌∙◌}
use mathlib.Core.Bool.{Bool, true, false, ◌&&◌}
use mathlib.Core.List.{List, [], ◌∷◌}
use mathlib.Core.Option.{none, some}
use lib.Dec.{eqb}
use lib.ListN.{length}
use borrow.Author.Tests.{leb-false, lt-leb, ne_eqb}
use Rattle.octets.specs.Sets.{all, is_octet, is_blank, is_token, is_plain, is_escapable, is_target, is_hex}
use Rattle.octets.proofs.Laws.{token_octet, plain_octet, escapable_octet, blank_octet, target_octet, hex_octet}
use Rattle.octets.proofs.Octets.{Octets}
use Rattle.grammar.specs.Link.{Link}
use Rattle.grammar.specs.Grammar.{Extra, Admissible, Field}
use Rattle.grammar.specs.Laws.{OctetsOnly}
use Rattle.grammar.proofs.Classes.{turned}
use Rattle.grammar.specs.Machine.{
  State,
  gap,
  target,
  percent,
  hex,
  after,
  semi,
  name,
  named,
  equals,
  bare,
  wide,
  quote,
  escape,
  dead,
  Open,
  next,
  step,
  run,
}
use Rattle.grammar.specs.Machine.{finish, name_end, add, param}
use Rattle.grammar.proofs.Exact.{derived_read}
use Rattle.grammar.proofs.Prefix.{run_dead}

-- a set of octets lacks what is no octet
beyond : {f : ℕ → Bool} → Octets f → (c : ℕ) → is_octet c ≡ false → f c ≡ false
beyond {f} o c h = turned (f c) true (λ e. absurd (over (o c e))) refl
  where
    over : c < 256 → ⊥
    over k = omega (arith, leb-false c 255 h)

other : (k c : ℕ) → k < 256 → is_octet c ≡ false → eqb c k ≡ false
other k c lt h = ne_eqb c k (λ e. omega (arith, leb-false c 255 h, e))

module _ (extra : Extra) (apart : Admissible extra) (c : ℕ) (h : is_octet c ≡ false) where
  next_dead : (o : Open) → next o c ≡ dead
  next_dead o = rw (beyond blank_octet c h, other 59 c (omega arith) h, other 44 c (omega arith) h)

  name_dead : (o : Open) (n e : ℕ) → name_end o n e c ≡ dead
  name_dead o n e =
      rw (
        beyond blank_octet c h,
        other 61 c (omega arith) h,
        other 59 c (omega arith) h,
        other 44 c (omega arith) h,
      )

  step_dead : (st : State) (i : ℕ) → step extra st i c ≡ dead
  step_dead (gap ls) i = rw (beyond blank_octet c h, other 44 c (omega arith) h, other 60 c (omega arith) h)
  step_dead (target ls a) i = rw (beyond target_octet c h, other 37 c (omega arith) h, other 62 c (omega arith) h)
  step_dead (percent ls a) i = rw (beyond hex_octet c h)
  step_dead (hex ls a) i = rw (beyond hex_octet c h)
  step_dead (after o) i = next_dead o
  step_dead (semi o) i = rw (beyond blank_octet c h, beyond token_octet c h)
  step_dead (name o n) i = rw (beyond token_octet c h) (name_dead o n i)
  step_dead (named o n e) i = name_dead o n e
  step_dead (equals o n e) i =
      rw (beyond blank_octet c h, other 34 c (omega arith) h, beyond token_octet c h, beyond apart.octets c h)
  step_dead (bare o n e v) i =
      rw (beyond token_octet c h, beyond apart.octets c h) (next_dead (add (param n e v i 1) o))
  step_dead (wide o n e v) i =
      rw (beyond token_octet c h, beyond apart.octets c h) (next_dead (add (param n e v i 3) o))
  step_dead (quote o n e v) i = rw (other 34 c (omega arith) h, other 92 c (omega arith) h, beyond plain_octet c h)
  step_dead (escape o n e v) i = rw (beyond escapable_octet c h)
  step_dead dead i = refl

-- a header that the machine finishes has octets only
read_octets : (extra : Extra) → Admissible extra → (t : List ℕ) (st : State) (i n : ℕ) {R : List Link}
    → finish (run extra st i t) n ≡ some R → all is_octet t ≡ true
read_octets extra apart [] st i n e = refl
read_octets extra apart (c ∷ t) st i n {R} e = go (is_octet c) refl (read_octets extra apart t (step extra st i c) (suc i) n e)
  where
    go : (b : Bool) → is_octet c ≡ b → all is_octet t ≡ true → (is_octet c && all is_octet t) ≡ true
    go true q rest = rw (q, rest)
    go false q rest =
        let died : run extra (step extra st i c) (suc i) t ≡ dead =
        ap (λ (x : State). run extra x (suc i) t) (step_dead extra apart c q st i) ∙ run_dead extra t (suc i)
        in
        let none_read : none ≡ some R = subst (λ (x : State). finish x n ≡ some R) died e in
        let z : ◌≡◌ {A = ℕ} 0 1 = cc in
        absurd (omega arith)

pub octets_only : OctetsOnly
octets_only extra apart s K r = read_octets extra apart s (gap []) 0 (length s) (derived_read extra apart s r.derived)
