-- Arm by arm: what the length and an octet leave of the known names is the one compared.
use mathlib.Core.Path.{refl}
use mathlib.Core.Bool.{not, ◌&&◌, ◌||◌}
use Rattle.octets.specs.Fold.{fold}
use Rattle.grammar.proofs.Codes.{codes}
use Rattle.names.proofs.Deciding.{long, low_at, is_long_lem, not_long, is_low, not_low, none_left, one_left}
use Rattle.names.proofs.known.Goals as goal

pub returns-then-n-eq108 : goal.returns-then-n-eq108
unfolding fold
returns-then-n-eq108 c =
    let n = c.args.n.now in
    one_left n (λ m. long 3 m && low_at 2 108 m)
    (rw (is_long_lem n c.in-3.is, is_low n 2 c.if-n-eq108.true))
    codes.rel refl refl c.only.ensures

pub returns-else-n-eq108 : goal.returns-else-n-eq108
unfolding fold
returns-else-n-eq108 c =
    let n = c.args.n.now in
    one_left n (λ m. long 3 m && not (low_at 2 108 m))
    (rw (is_long_lem n c.in-3.is, not_low n 2 c.if-n-eq108.false))
    codes.rev refl refl c.only-else-n-eq108.ensures

pub returns-in-4 : goal.returns-in-4
unfolding fold
returns-in-4 c =
    let n = c.args.n.now in
    one_left n (long 4) (is_long_lem n c.in-4.is) codes.type refl refl c.only-in-4.ensures

pub returns-then-n-eq109 : goal.returns-then-n-eq109
unfolding fold
returns-then-n-eq109 c =
    let n = c.args.n.now in
    one_left n (λ m. long 5 m && low_at 0 109 m)
    (rw (is_long_lem n c.in-5.is, is_low n 0 c.if-n-eq109.true))
    codes.media refl refl c.only-then-n-eq109.ensures

pub returns-else-n-eq109 : goal.returns-else-n-eq109
unfolding fold
returns-else-n-eq109 c =
    let n = c.args.n.now in
    one_left n (λ m. long 5 m && not (low_at 0 109 m))
    (rw (is_long_lem n c.in-5.is, not_low n 0 c.if-n-eq109.false))
    codes.title refl refl c.only-else-n-eq109.ensures

pub returns-then-n-eq97 : goal.returns-then-n-eq97
unfolding fold
returns-then-n-eq97 c =
    let n = c.args.n.now in
    one_left n (λ m. long 6 m && low_at 0 97 m)
    (rw (is_long_lem n c.in-6.is, is_low n 0 c.if-n-eq97.true))
    codes.anchor refl refl c.only-then-n-eq97.ensures

pub returns-else-n-eq97 : goal.returns-else-n-eq97
unfolding fold
returns-else-n-eq97 c =
    let n = c.args.n.now in
    one_left n (λ m. long 6 m && not (low_at 0 97 m))
    (rw (is_long_lem n c.in-6.is, not_low n 0 c.if-n-eq97.false))
    codes.title* refl refl c.only-else-n-eq97.ensures

pub returns-in-8 : goal.returns-in-8
unfolding fold
returns-in-8 c =
    let n = c.args.n.now in
    one_left n (long 8) (is_long_lem n c.in-8.is) codes.hreflang refl refl c.only-in-8.ensures

pub returns-in_default : goal.returns-in_default
unfolding fold
returns-in_default c =
    let n = c.args.n.now in
    let others = c.in_default.in_default-own.rest in
    none_left n (λ m. not (long 3 m || (long 4 m || (long 5 m || (long 6 m || long 8 m)))))
    (rw (not_long n others.0.0.0.0.1, not_long n others.0.0.0.1, not_long n others.0.0.1, not_long n others.0.1, not_long n others.1))
    refl
