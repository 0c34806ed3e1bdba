-- The place of a header: where the machine can go no further, or the start of the first closed target that is no reference.
use Prim.Native.Nat.{ℕ, zero, suc, ◌+◌, ◌≤◌, ◌<◌}
use native.Mathlib.Omega.{arith}
use native.Mathlib.Decide.{dec_lt}
use mathlib.Core.Path.{◌≡◌, refl, sym, ap, subst, ◌∙◌}
use mathlib.Core.Bool.{Bool, true, false, true≢false}
use mathlib.Core.Logic.{◌⊎◌, inl, inr}
use mathlib.Core.List.{List, []}
use lib.ListN.{length, take}
use lib.Seq.{slice, take-length}
use Rattle.rules.proofs.Lefts.{derived_or_not}
use Rattle.references.specs.Octets.{has}
use Rattle.references.specs.AppendixA.{uri_reference}
use Rattle.grammar.specs.Link.{Link}
use Rattle.grammar.specs.Grammar.{Extra, Admissible}
use Rattle.grammar.specs.Targets.{ReferenceAt, HasTarget}
use Rattle.grammar.specs.Place.{Malformed, Begins, Faulty, Place, at_target, at_longest, Begun}
use Rattle.grammar.specs.Laws.{OnePlace, CutShort}
use Rattle.grammar.specs.Machine.{State, gap, run}
use Rattle.grammar.proofs.Prefix.{is_dead, alive_begins, begins_alive, dead_later, longest_at, same_longest}
use Rattle.grammar.proofs.TargetsHeld.{closed_in, each_has, has_reversed, has_settled, settled_alive}
use Rattle.grammar.proofs.Closing.{
  state_at,
  Shut,
  state_end,
  settled,
  closed_shut,
  shut_closed,
  shut_ordered,
  shut_later,
  shut_same,
  shut_held,
  CleanTo,
  closing,
}

-- whether a part of a text is a reference
pub judged : (s : List ℕ) (a k : ℕ) → ReferenceAt s a k ⊎ (ReferenceAt s a k → ⊥)
judged s a k = derived_or_not has uri_reference (slice a k s)

module _ (extra : Extra) (apart : Admissible extra) where
  pub shut_faulty : {s : List ℕ} {a k : ℕ} → Shut extra s a k → (ReferenceAt s a k → ⊥) → Faulty extra s a k
  shut_faulty h n = record { closed = shut_closed extra apart h; no_reference = n }

  pub faulty_shut : {s : List ℕ} {a k : ℕ} → Faulty extra s a k → Shut extra s a k
  faulty_shut f = closed_shut extra apart f.closed

  -- the machine lives behind a `>` that closes a target
  faulty_before : {s : List ℕ} {a k i : ℕ} → i < length s → is_dead (state_at extra s (suc i)) ≡ true → Faulty extra s a k → k < i
  faulty_before {s} {a} {k} {i} h died f = go (dec_lt k i)
    where
      go : Dec (k < i) → k < i
      go (yes l) = l
      go (no l) =
          absurd
          (true≢false
          (sym (dead_later extra apart s (suc i) (suc k) (omega arith) died)
          ∙ begins_alive extra apart (take (suc k) s)
          (record { rest = f.closed.rest; links = f.closed.links; derived = f.closed.derived })))

  -- ---- where the machine can go no further

  pub halted : (s : List ℕ) (i : ℕ) → i ≤ length s → is_dead (state_at extra s i) ≡ false
      → (i ≡ length s) ⊎ (is_dead (state_at extra s (suc i)) ≡ true) → CleanTo extra s i → Place extra s i
  halted s i h alive d clean =
      at_longest (λ a k f. f.no_reference (clean a k (faulty_shut f) (early a k f d (dec_lt i (length s)))))
      (longest_at extra apart s i h alive d)
    where
      early : (a k : ℕ) → Faulty extra s a k → (i ≡ length s) ⊎ (is_dead (state_at extra s (suc i)) ≡ true) → Dec (i < length s) → k < i
      early a k f (inl e) w = omega (arith, f.closed.inside, e)
      early a k f (inr died) (yes l) = faulty_before l died f
      early a k f (inr died) (no l) = omega (arith, f.closed.inside)

  -- ---- at a target

  pub first_target : {s : List ℕ} {a k : ℕ} → Shut extra s a k → (ReferenceAt s a k → ⊥) → CleanTo extra s k → Place extra s a
  first_target {s} {a} {k} h n clean = at_target (shut_faulty h n) (λ b j f. go b j f (dec_lt j k) (dec_lt k j))
    where
      go : (b j : ℕ) → Faulty extra s b j → Dec (j < k) → Dec (k < j) → a ≤ b
      go b j f (yes l) w = absurd (f.no_reference (clean b j (faulty_shut f) l))
      go b j f (no l) (yes m) =
          omega (arith, shut_ordered extra h, shut_later extra h (faulty_shut f) m)
      go b j f (no l) (no m) =
          let e : j ≡ k = omega arith in
          omega (arith, shut_same extra h (subst (λ (x : ℕ). Shut extra s b x) e (faulty_shut f)))

  pub faulty_malformed : {s : List ℕ} {a k : ℕ} → Shut extra s a k → (ReferenceAt s a k → ⊥) → Malformed extra s
  faulty_malformed {s} {a} {k} h n R f r =
      let (ls, q, e) = settled extra apart s f in
      let alive : is_dead (state_at extra s (length s)) ≡ false =
      ap is_dead (state_end extra s) ∙ settled_alive (run extra (gap []) 0 s) (length s) q
      in
      let held = shut_held extra h (length s) h.inside (omega arith) alive in
      n
      (each_has (ReferenceAt s) R a k r
      (subst (λ (x : List Link). HasTarget x a k) e
      (has_reversed ls a k
      (has_settled (run extra (gap []) 0 s) (length s) a k q
      (subst (λ (x : State). HasTarget (closed_in x) a k) (state_end extra s) held)))))

  -- ---- every header has one place

  find : (s : List ℕ) (n i : ℕ) → i + n ≡ length s → is_dead (state_at extra s i) ≡ false → CleanTo extra s i → (k : ℕ) × Place extra s k
  find s zero i e alive clean = (i, halted s i (omega arith) alive (inl (omega arith)) clean)
  find s (suc n) i e alive clean =
      go (is_dead (state_at extra s (suc i))) refl (closing extra s i (omega arith)) (find s n (suc i) (omega arith))
    where
      -- a place more
      longer : ((a : ℕ) → Shut extra s a i → ReferenceAt s a i) → CleanTo extra s (suc i)
      longer f b j h l = pick (dec_lt j i)
        where
          pick : Dec (j < i) → ReferenceAt s b j
          pick (yes m) = clean b j h m
          pick (no m) =
              let e : j ≡ i = omega arith in
              subst (ReferenceAt s b) (sym e) (f b (subst (λ (x : ℕ). Shut extra s b x) e h))

      go : (x : Bool) → is_dead (state_at extra s (suc i)) ≡ x
          → ((a : ℕ) × Shut extra s a i) ⊎ ((a : ℕ) → Shut extra s a i → ⊥)
          → (is_dead (state_at extra s (suc i)) ≡ false → CleanTo extra s (suc i) → (k : ℕ) × Place extra s k)
          → (k : ℕ) × Place extra s k
      go true q c more = (i, halted s i (omega arith) alive (inr q) clean)
      go false q (inr none) more = more q (longer (λ a h. absurd (none a h)))
      go false q (inl (a, h)) more = try (judged s a i)
        where
          try : ReferenceAt s a i ⊎ (ReferenceAt s a i → ⊥) → (k : ℕ) × Place extra s k
          try (inl r) = more q (longer (λ b g. subst (λ (x : ℕ). ReferenceAt s x i) (shut_same extra h g) r))
          try (inr n) = (a, first_target h n clean)

  pub same_place : (s : List ℕ) (j k : ℕ) → Place extra s j → Place extra s k → j ≡ k
  same_place s j k (at_target f least) (at_target g smallest) = omega (arith, least k _ g, smallest j _ f)
  same_place s j k (at_target f least) (at_longest none l) = absurd (none _ _ f)
  same_place s j k (at_longest none l) (at_target g least) = absurd (none _ _ g)
  same_place s j k (at_longest none l) (at_longest also m) = same_longest extra apart s j k l m

  -- ---- whether something is wrong so far

  -- it is, unless the place is the whole length
  pub begun_decided : (u : List ℕ) → Begun extra u ⊎ (Begun extra u → ⊥)
  begun_decided u = go (find u (length u) 0 (omega arith) refl (λ b j h l. absurd (omega arith)))
    where
      go : (k : ℕ) × Place extra u k → Begun extra u ⊎ (Begun extra u → ⊥)
      go (k, at_target f least) = inr (λ b. b.references _ _ f)
      go (k, at_longest none p) = try (dec_lt k (length u))
        where
          try : Dec (k < length u) → Begun extra u ⊎ (Begun extra u → ⊥)
          try (yes l) = inr (λ b. p.longest (length u) l (omega arith) (subst (Begins extra) (sym (take-length u)) b.begins))
          try (no l) =
              let e : k ≡ length u = omega (arith, p.within) in
              inl
              (record {
                begins = subst (Begins extra) (ap (λ (n : ℕ). take n u) e ∙ take-length u) p.begins;
                references = none;
              })

  pub begun_nothing : Begun extra []
  begun_nothing =
      record { begins = alive_begins extra apart [] refl; references = λ a k f. absurd (omega (arith, f.closed.inside)) }

pub one_place : OnePlace
one_place extra apart s =
    let (k, p) = find extra apart s (length s) 0 (omega arith) refl (λ b j h l. absurd (omega arith)) in
    (k, p, λ j q. same_place extra apart s j k q p)

-- of a header of which nothing is wrong so far, the whole is the longest prefix that begins a header
pub cut_short : CutShort
cut_short extra s b =
    at_longest {k = length s} b.references
    (record {
      within = omega arith;
      begins = subst (λ (u : List ℕ). Begins extra u) (sym (take-length s)) b.begins;
      longest = λ j lt le _. omega arith;
    })
