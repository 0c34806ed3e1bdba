-- A loop that asks whether the part from a to e means a token is at place k, and has met token octets alone.
use Prim.Native.Nat.{ℕ, ◌+◌, ◌≤◌, ◌<◌}
use native.Mathlib.Omega.{arith}
use native.Mathlib.Numerals.{add-one}
use mathlib.Core.Path.{◌≡◌, refl, sym, ap, ◌∙◌}
use mathlib.Core.Bool.{Bool, true, false}
use mathlib.Core.List.{List, [], ◌∷◌}
use lib.Dec.{ltb}
use lib.ListN.{length, get_or}
use borrow.Author.Tests.{ltb-true, ltb-false, eqb-false}
use Rattle.octets.specs.Sets.{all, is_token}
use Rattle.octets.proofs.Laws.{token_plain}
use Rattle.grammar.proofs.Classes.{plain_not_backslash}
use Rattle.tables.specs.Written.{is_token_text}
use Rattle.values.specs.Rest.{rest, Meant}
use Rattle.values.proofs.Meant.{none_left, at_plain, at_backslash, length_step}

pub record TokensUpTo (s : List ℕ) (e a k : ℕ) : Type 0 where
  pub inside : k ≤ e
  pub forward : a ≤ k
  pub tokens : all is_token (rest s e a) ≡ all is_token (rest s e k)
  pub some_octet : a < k → 0 < length (rest s e a)

-- an empty text is no token
token_text : (v : List ℕ) {b : Bool} → all is_token v ≡ b → 0 < length v → b ≡ is_token_text v
token_text [] e l = absurd (omega arith)
token_text (c ∷ v) e l = sym e

not_token : (v : List ℕ) → all is_token v ≡ false → false ≡ is_token_text v
not_token [] e = refl
not_token (c ∷ v) e = sym e

module _ {s : List ℕ} {e a k : ℕ} (w : TokensUpTo s e a k) where
  -- nothing is left
  ended : rest s e k ≡ [] → ltb a k ≡ is_token_text (rest s e a)
  ended h = go (ltb a k) refl
    where
      go : (b : Bool) → ltb a k ≡ b → b ≡ is_token_text (rest s e a)
      go true l = token_text (rest s e a) (w.tokens ∙ ap (all is_token) h) (w.some_octet (ltb-true a k l))
      go false l =
          let same : a ≡ k = omega (arith, w.forward, ltb-false a k l) in
          let none : rest s e a ≡ [] = rw same h in
          rw none

  pub tokens_end : e ≤ k → ltb a k ≡ is_token_text (rest s e a)
  tokens_end l = ended (none_left s l)

  module _ {p : ℕ} (m : Meant s e k p) where
    tokens_none : e ≤ p → ltb a k ≡ is_token_text (rest s e a)
    tokens_none l = ended (m.none l)

    tokens_broken : p < e → is_token (get_or s p 0) ≡ false → false ≡ is_token_text (rest s e a)
    tokens_broken l t = not_token (rest s e a) (w.tokens ∙ ap (all is_token) (m.octet l) ∙ rw t)

    tokens_more : p < e → is_token (get_or s p 0) ≡ true → TokensUpTo s e a (p + 1)
    tokens_more l t =
        rw (add-one p)
        (record {
          inside = l;
          forward = omega (arith, w.forward, m.from);
          tokens = w.tokens ∙ ap (all is_token) (m.octet l) ∙ rw t;
          some_octet = λ _. go (ltb a k) refl;
        })
      where
        -- the first octet is the one just met, or was met before
        go : (b : Bool) → ltb a k ≡ b → 0 < length (rest s e a)
        go true h = w.some_octet (ltb-true a k h)
        go false h =
            let same : a ≡ k = omega (arith, w.forward, ltb-false a k h) in
            rw same (omega (arith, length_step m l))

  module _ (l : k < e) (short : e ≤ length s) where
    pub token_on : is_token (get_or s k 0) ≡ true → TokensUpTo s e a (k + 1)
    token_on t =
        let n = eqb-false (get_or s k 0) 92 (plain_not_backslash (get_or s k 0) (token_plain (get_or s k 0) t)) in
        tokens_more (at_plain l short n) l t

    pub other_here : is_token (get_or s k 0) ≡ false → (get_or s k 0 ≡ 92 → ⊥) → false ≡ is_token_text (rest s e a)
    other_here t n = tokens_broken (at_plain l short n) l t

    -- a backslash, and the octet behind it at p, if there is one
    module _ (b : get_or s k 0 ≡ 92) {p : ℕ} (at : p ≡ k + 1) where
      behind : Meant s e k p
      behind = rw at (at_backslash l short b)

      pub lone_backslash : e ≤ p → ltb a k ≡ is_token_text (rest s e a)
      lone_backslash = tokens_none behind

      pub other_behind : p < e → is_token (get_or s p 0) ≡ false → false ≡ is_token_text (rest s e a)
      other_behind = tokens_broken behind

      pub token_behind : p < e → is_token (get_or s p 0) ≡ true → TokensUpTo s e a (p + 1)
      token_behind = tokens_more behind
