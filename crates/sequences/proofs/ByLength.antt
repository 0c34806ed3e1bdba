-- What is awaited behind a first octet, by its leading ones: the same as by the table's ranges, computed at each octet. Assumes nothing.
use Prim.Native.Nat.{ℕ, ◌-◌, ◌<◌}
use mathlib.Core.Path.{◌≡◌, refl, sym, ◌∙◌}
use mathlib.Core.Bool.{Bool, true, false, cond, ◌&&◌}
use lib.Count.{count_leading_zeros}
use lib.Dec.{leb, eqb}
use borrow.Author.Tests.{eqb-true, eq-eqb, ne_eqb}
use Rattle.octets.proofs.Octets.{both, every_at}
use Rattle.sequences.specs.declared.Awaited.{Awaited}
use Rattle.sequences.specs.Ones.{leading_ones}
use Rattle.sequences.specs.Awaited.{awaits, tails, nothing, impossible, behind_first}

-- the complement's leading zeros
pub complement_zeros : (c : ℕ) → c < 256 → count_leading_zeros 8 (255 - c) ≡ leading_ones c
unfolding count_leading_zeros leading_ones
complement_zeros c h =
    eqb-true (count_leading_zeros 8 (255 - c)) (leading_ones c)
    (every_at (λ k. eqb (count_leading_zeros 8 (255 - k)) (leading_ones k)) 256 refl c h)

-- behind a first octet c that begins with n ones
abbrev pub behind_length : ℕ → ℕ → Awaited
behind_length n c =
    cond (eqb n 0) nothing
    (cond (eqb n 2 && leb 0xC2 c) (tails 1)
    (cond (eqb n 3) (awaits 2 (cond (eqb c 0xE0) 0xA0 0x80) (cond (eqb c 0xED) 0x9F 0xBF))
    (cond (eqb n 4 && leb c 0xF4) (awaits 3 (cond (eqb c 0xF0) 0x90 0x80) (cond (eqb c 0xF4) 0x8F 0xBF)) impossible)))

abbrev pub same_awaited : Awaited → Awaited → Bool
same_awaited s t = eqb s.count t.count && (eqb s.low t.low && eqb s.high t.high)

pub same_awaited_lem : (s t : Awaited) → same_awaited s t ≡ true → s ≡ t
same_awaited_lem s t e =
    let p = both (eqb s.count t.count) (eqb s.low t.low && eqb s.high t.high) e in
    let q = both (eqb s.low t.low) (eqb s.high t.high) p.1 in
    λ i.
    record {
      count = eqb-true s.count t.count p.0 i;
      low = eqb-true s.low t.low q.0 i;
      high = eqb-true s.high t.high q.1 i;
    }

by_length : (c : ℕ) → c < 256 → behind_length (leading_ones c) c ≡ behind_first c
unfolding leading_ones behind_first
by_length c h =
    same_awaited_lem (behind_length (leading_ones c) c) (behind_first c)
    (every_at (λ k. same_awaited (behind_length (leading_ones k) k) (behind_first k)) 256 refl c h)

-- the code's tests, one after another
module _ (n c : ℕ) (e : n ≡ leading_ones c) (h : c < 256) where
  told : behind_length n c ≡ behind_first c
  told = rw e (by_length c h)

  pub of_none : n ≡ 0 → nothing ≡ behind_first c
  of_none z = sym (rw z refl) ∙ told

  module _ (z : n ≡ 0 → ⊥) where
    pub of_two_lem : (eqb n 2 && leb 0xC2 c) ≡ true → tails 1 ≡ behind_first c
    of_two_lem t = sym (rw (ne_eqb n 0 z, t) refl) ∙ told

    module _ (t : (eqb n 2 && leb 0xC2 c) ≡ false) where
      pub of_three_lem : n ≡ 3 → awaits 2 (cond (eqb c 0xE0) 0xA0 0x80) (cond (eqb c 0xED) 0x9F 0xBF) ≡ behind_first c
      of_three_lem k = sym (rw (ne_eqb n 0 z, t, eq-eqb n 3 k) refl) ∙ told

      module _ (k : n ≡ 3 → ⊥) where
        pub of_four : (eqb n 4 && leb c 0xF4) ≡ true
            → awaits 3 (cond (eqb c 0xF0) 0x90 0x80) (cond (eqb c 0xF4) 0x8F 0xBF) ≡ behind_first c
        of_four f = sym (rw (ne_eqb n 0 z, t, ne_eqb n 3 k, f) refl) ∙ told

        pub of_others : (eqb n 4 && leb c 0xF4) ≡ false → impossible ≡ behind_first c
        of_others f = sym (rw (ne_eqb n 0 z, t, ne_eqb n 3 k, f) refl) ∙ told
