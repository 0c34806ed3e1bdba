-- A loop that puts octets has put all up to place k: what is left of the whole is f k, and the loop ends at place e.
use Prim.Native.Nat.{ℕ, suc, ◌+◌, ◌≤◌, ◌<◌}
use native.Mathlib.Numerals.{add-one}
use mathlib.Core.Path.{◌≡◌}
use mathlib.Core.List.{List, [], ◌∷◌, ◌++◌}
use lib.ListN.{length, set}
use Rattle.kinds.specs.Put.{Put}
use Rattle.kinds.proofs.Putting.{Putting, begin, finish, octet, octet_room, several, room, onto}

pub record PutUpTo (f : ℕ → List ℕ) (e : ℕ) (old : List ℕ) (at : ℕ) (whole new : List ℕ) (to k : ℕ) : Type 0 where
  pub inside : k ≤ e
  pub put : Putting old at whole new to (f k)

pub start : (f : ℕ → List ℕ) (e : ℕ) (old : List ℕ) (at k : ℕ) → k ≤ e → at + length (f k) ≤ length old
    → PutUpTo f e old at (f k) old at k
start f e old at k h r = record { inside = h; put = begin old at (f k) r }

module _ {f : ℕ → List ℕ} {e : ℕ} {old : List ℕ} {at : ℕ} {whole new : List ℕ} {to k : ℕ} (w : PutUpTo f e old at whole new to k) where
  -- behind the last octet
  pub ended : f k ≡ [] → Put old new at to whole
  ended q = finish (onto q w.put)

  -- the octet c is next
  module _ {c : ℕ} (q : f k ≡ c ∷ f (suc k)) where
    pub slot : to < length new
    slot = octet_room (onto q w.put)

    pub step : k < e → PutUpTo f e old at whole (set new to c) (to + 1) (k + 1)
    step l = rw (add-one k) (record { inside = l; put = octet (onto q w.put) })

  -- the octets bs are next, and then what is left behind place p
  module _ (bs : List ℕ) (p : ℕ) (q : f k ≡ bs ++ f (suc p)) where
    pub slots : to + length bs ≤ length new
    slots = room bs (f (suc p)) (onto q w.put)

    pub steps : {new' : List ℕ} {to' : ℕ} → p < e → Put new new' to to' bs → PutUpTo f e old at whole new' to' (p + 1)
    steps l r = rw (add-one p) (record { inside = l; put = several (onto q w.put) r })

-- the turn at place k has put what is next
pub next : {f : ℕ → List ℕ} {e : ℕ} {old : List ℕ} {at : ℕ} {whole new : List ℕ} {to k : ℕ} → k < e
    → Putting old at whole new to (f (suc k)) → PutUpTo f e old at whole new to (k + 1)
next {k = k} l w = rw (add-one k) (record { inside = l; put = w })
