-- What the walk's entry answers. The numbers come in the order 14, 15, 8, 7.
use Rattle.std.specs.Prelude.{ℕ, ◌≤◌, ◌<◌, ◌≡◌, List, length, ℤ, nat_abs}
use Rattle.outcomes.specs.Number.{limit, done, no_such_link_number, no_output_room_number, out_of_range_number, bad_catalogue_number}
use Rattle.catalogues.specs.Packs.{Pack, Room, Catalogue}
use Rattle.catalogues.specs.Steps.{End, arrived, no_link, no_target, no_pack}
use Rattle.catalogues.specs.Walks.{Ended, walk, relation_of}

-- the most steps of a walk, either way
abbrev pub step_limit : ℕ
step_limit = 64

pub record WalkOut : Type 0 where
  pub number : ℕ
  pub end : ℕ
  pub pack : ℕ
  pub steps : ℕ

abbrev pub refused : ℕ → WalkOut
refused n = record { number = n; end = 0; pack = 0; steps = 0 }

-- 0 is no end: the walk is refused
abbrev pub end_number : End → ℕ
end_number arrived = 1
end_number no_link = 2
end_number no_target = 3
end_number no_pack = 4

abbrev pub walked : Ended → WalkOut
walked o = record { number = done; end = end_number o.end; pack = o.pack; steps = o.steps }

-- n steps over the text, from the pack numbered `start`, in the room that is lent
module _ (text : List ℕ) (room : Room) (start : ℕ) (n : ℤ) where
  pub data Walk : WalkOut → Type 0 where
    -- whatever the text is
    out_of_range : step_limit < nat_abs n → Walk (refused out_of_range_number)
    bad_catalogue : nat_abs n ≤ step_limit → ((ps : List Pack) → Catalogue room text ps → ⊥) → Walk (refused bad_catalogue_number)
    no_such_pack : {ps : List Pack} → nat_abs n ≤ step_limit → Catalogue room text ps → length ps ≤ start → Walk (refused no_such_link_number)
    no_room : {ps : List Pack} → nat_abs n ≤ step_limit → Catalogue room text ps → start < length ps → room.octets < limit
        → Walk (refused no_output_room_number)
    walks : {ps : List Pack} → nat_abs n ≤ step_limit → Catalogue room text ps → start < length ps → limit ≤ room.octets
        → Walk (walked (walk ps (relation_of n) (nat_abs n) start))

-- the room of what is lent
abbrev pub room_of : List ℕ → List ℕ → List ℕ → Room
room_of L P work = record { link_slots = length L; param_slots = length P; octets = length work }

-- What a walk leaves free: the slots of both work tables, L and P before it, and the octets for resolving may hold anything afterwards,
-- on a refusal too. There are as many of each as before, and nothing else is free.
pub record LeftFree (L P work L' P' work' : List ℕ) : Type 0 where
  pub links : length L' ≡ length L
  pub params : length P' ≡ length P
  pub octets : length work' ≡ length work
