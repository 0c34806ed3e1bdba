-- How far a cursor moves past a run.
use Rattle.std.specs.Prelude.{ℕ, ◌≤◌, ◌<◌, ◌≡◌, Bool, true, false, List, eqb, length, get_or}
use Rattle.grammar.specs.Grammar.{At, In, Run}

-- from place a up to place e stand octets of the set f, and none of it stands at e
pub record Passed (f : ℕ → Bool) (s : List ℕ) (a e : ℕ) : Type 0 where
  pub forward : a ≤ e
  pub inside : e ≤ length s
  pub run : Run s f a e
  pub stops : e < length s → f (get_or s e 0) ≡ false

-- the place e lies in the text or at its end, and no octet of the set f stands there
pub record Ended (f : ℕ → Bool) (s : List ℕ) (e : ℕ) : Type 0 where
  pub inside : e ≤ length s
  pub stops : e < length s → f (get_or s e 0) ≡ false

-- what a look for the octet c at place i tells
pub record Looked (s : List ℕ) (i c : ℕ) (r : Bool) : Type 0 where
  pub yes : r ≡ true → At s i c
  pub not : r ≡ false → i < length s → eqb (get_or s i 0) c ≡ false

-- what a look for an octet of the set f at place i tells
pub record LookedIn (f : ℕ → Bool) (s : List ℕ) (i : ℕ) (r : Bool) : Type 0 where
  pub yes : r ≡ true → In s f i
  pub not : r ≡ false → i < length s → f (get_or s i 0) ≡ false
