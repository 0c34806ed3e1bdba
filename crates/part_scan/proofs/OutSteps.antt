-- From a phase outside of targets an octet opens one, or stays outside.
use Prim.Native.Nat.{ℕ, zero, suc}
use mathlib.Core.Path.{◌≡◌, refl}
use mathlib.Core.Bool.{Bool, true, false, cond, true≢false}
use lib.Dec.{eqb}
use Rattle.octets.specs.Sets.{is_blank, is_token, is_plain, is_escapable}
use Rattle.grammar.specs.Grammar.{Extra}
use Rattle.phases.specs.Steps.{stuck, first_of, token_or_blank, link_end_in, name_end_in, or_in, value_start_in, step_in}
use Rattle.phases.specs.Spots.{unfit, is_open}

-- a `<` opens one, and all else stays outside
pub data Out : ℕ → Type 0 where
  opens : Out 1
  outside : {n : ℕ} → is_open n ≡ false → eqb n unfit ≡ false → Out n

choose : (b : Bool) {x y : ℕ} → Out x → Out y → Out (cond b x y)
choose true p q = p
choose false p q = q

-- a phase by its number
nowhere : Out 12
nowhere = outside refl refl

module _ (c : ℕ) where
  link_out : {b : ℕ} → Out b → Out (link_end_in b c)
  unfolding link_end_in first_of
  link_out o =
      choose (eqb c 59) (outside refl refl)
      (choose (eqb c 44) (outside refl refl) (choose (is_blank c) o nowhere))

  name_out : Out (name_end_in c)
  unfolding name_end_in
  name_out = choose (eqb c 61) (outside refl refl) (link_out (outside refl refl))

  or_out : (f : ℕ → Bool) {e p : ℕ} → Out e → Out p → Out (or_in f e c p)
  unfolding or_in
  or_out f {e} o q = choose (eqb e stuck) (choose (f c) q nowhere) o

  token_out : {p b : ℕ} → Out p → Out b → Out (token_or_blank p b c)
  unfolding token_or_blank
  token_out p b = choose (is_token c) p (choose (is_blank c) b nowhere)

pub out_step : (extra : Extra) (p c : ℕ) → is_open p ≡ false → Out (step_in extra p c)
unfolding step_in first_of value_start_in
out_step extra zero c o =
    choose (eqb c 60) opens (choose (eqb c 44) (outside refl refl) (choose (is_blank c) (outside refl refl) nowhere))
out_step extra (suc zero) c o = absurd (true≢false o)
out_step extra (suc (suc zero)) c o = absurd (true≢false o)
out_step extra (suc (suc (suc zero))) c o = absurd (true≢false o)
out_step extra (suc (suc (suc (suc zero)))) c o = link_out c (outside refl refl)
out_step extra (suc (suc (suc (suc (suc zero))))) c o =
    token_out c (outside refl refl) (outside refl refl)
out_step extra (suc (suc (suc (suc (suc (suc zero)))))) c o = or_out c is_token (name_out c) (outside refl refl)
out_step extra (suc (suc (suc (suc (suc (suc (suc zero))))))) c o = name_out c
out_step extra (suc (suc (suc (suc (suc (suc (suc (suc zero)))))))) c o =
    choose (eqb c 34) (outside refl refl)
    (or_out c extra (token_out c (outside refl refl) (outside refl refl)) (outside refl refl))
out_step extra (suc (suc (suc (suc (suc (suc (suc (suc (suc zero))))))))) c o =
    or_out c extra (or_out c is_token (link_out c (outside refl refl)) (outside refl refl))
    (outside refl refl)
out_step extra (suc (suc (suc (suc (suc (suc (suc (suc (suc (suc zero)))))))))) c o =
    choose (eqb c 34) (outside refl refl)
    (choose (eqb c 92) (outside refl refl) (choose (is_plain c) (outside refl refl) nowhere))
out_step extra (suc (suc (suc (suc (suc (suc (suc (suc (suc (suc (suc zero))))))))))) c o =
    choose (is_escapable c) (outside refl refl) nowhere
out_step extra (suc (suc (suc (suc (suc (suc (suc (suc (suc (suc (suc (suc p)))))))))))) c o = nowhere
