-- What is said of the balance of a section: the list, and its refusal. Assumes nothing.
use Prim.Native.Nat.{ℕ, suc, ◌+◌, ◌*◌, ◌≤◌, ◌<◌}
use mathlib.Core.Path.{◌≡◌, refl, ap}
use mathlib.Core.Bool.{Bool, true, false, false≢true}
use mathlib.Core.Logic.Iff
use mathlib.Core.Logic.{◌⊎◌, inl, inr, ⊎_elim, ◌↔◌}
use mathlib.Core.List.Memᴰ
use mathlib.Core.List.{List, [], ◌∷◌, Memᴰ}
use native.Mathlib.Nat.{eq-zero-or-pos, eq-or-lt_of_le}
use native.Mathlib.Omega.{arith}
use lib.Dec.{ltb, leb}
use lib.IntN.{pos}
use lib.ListN.{length}
use lib.Signed.{◌<ℤ◌}
use borrow.Author.Tests.{lt-ltb}
use Rattle.arith.specs.Lines.{line, first_of}
use Rattle.arith.proofs.Tests.{Decides}
use Rattle.section.specs.declared.Section.{Section}
use Rattle.section.specs.Refusal.{section_refusal}
use Rattle.section.proofs.Accepted.{accepted}
use Rattle.forces.specs.Forces.{imbalance, moment}
use Rattle.section.specs.Has.{last_depth}
use Rattle.depths.specs.Depths.{Entry, entry_of, kind_at, listed, Balances, SomeDepth, NoDepth, Rising}
use Rattle.depths.specs.Answers.{depths_refusal, list_refusal, last_looked}
use Rattle.depths.proofs.Listed.{at_place, list_only, list_all, list_rising, list_empty, empty_list}
use Rattle.depths.proofs.Sided.{falls, rises, kind_one, kind_two, two_inside, kind_most}

-- ---- 1. the list has exactly the depths that balance, in strictly ascending order, and is refused as empty exactly where there is none
pub listed_exactly : (s : Section) (e : Entry) → Memᴰ e (listed s) ↔ Balances s e
listed_exactly s e = (only, all)
  where
    only : Memᴰ e (listed s) → Balances s e
    only w =
        let l = list_only (kind_at s) (moment s) (last_depth s) e w in
        let kind : e.kind ≡ kind_at s e.depth = ap (λ v. v.kind) l.3 in
        record { from = l.0; to = l.1; kind = kind; some = omega arith; moment = ap (λ v. v.moment) l.3 }

    all : Balances s e → Memᴰ e (listed s)
    all b =
        Memᴰ.cast (λ i. record { depth = e.depth; kind = b.kind i; moment = b.moment i })
        (list_all (kind_at s) (moment s) (last_depth s) e.depth b.from b.to (omega (arith, b.kind, b.some)))

pub listed_rising : (s : Section) → Rising 0 (listed s)
listed_rising s = list_rising (kind_at s) (moment s) (last_depth s)

pub none_listed : (s : Section) → (listed s ≡ []) ↔ NoDepth s
none_listed s = (list_empty (kind_at s) (moment s) (last_depth s), empty_list (kind_at s) (moment s) (last_depth s))

in_first : (es : List Entry) → Decides (ltb 0 (length es)) ((e : Entry) × Memᴰ e es)
in_first [] = (λ e. absurd (false≢true e), λ w. absurd (Memᴰ.not-nil w.1))
in_first (e ∷ es) = (λ t. (e, Memᴰ.head refl), λ w. lt-ltb 0 (length (e ∷ es)) (omega arith))

pub some_depth : (s : Section) → Decides (ltb 0 (length (listed s))) (SomeDepth s)
some_depth s = Iff.trans (in_first (listed s)) (λ w. (w.0, (listed_exactly s w.0).0 w.1), λ w. (w.0, (listed_exactly s w.0).1 w.1))

fourteen_where_empty : (es : List Entry) (rest : ℕ) → (rest ≡ 14 → ⊥) → (first_of (line (ltb 0 (length es)) 14 0) rest ≡ 14) ↔ (es ≡ [])
fourteen_where_empty [] rest h = (λ e. refl, λ e. refl)
fourteen_where_empty (e ∷ es) rest h = rw (lt-ltb 0 (length (e ∷ es)) (omega arith)) (λ e. absurd (h e), λ e. omega (arith, ap length e))

not_fourteen : (t : Bool) → line t 15 0 ≡ 14 → ⊥
not_fourteen true e = omega arith
not_fourteen false e = omega arith

pub fourteen_exactly : (s : Section) (room : ℕ) → section_refusal s ≡ 0 → (list_refusal s room ≡ 14) ↔ NoDepth s
unfolding list_refusal depths_refusal
fourteen_exactly s room ok = rw ok (Iff.trans (fourteen_where_empty (listed s) _ (not_fourteen (leb (3 * length (listed s)) room))) (none_listed s))

-- ---- 2. a depth whose imbalance is on one side of zero, and the next one's on the other, is listed
listed_as :
    (s : Section) (x kind : ℕ) → 1 ≤ x → x ≤ last_depth s → kind_at s x ≡ suc kind
    → Memᴰ (record { depth = x; kind = suc kind; moment = moment s x }) (listed s)
listed_as s x kind from to e = rw e at (list_all (kind_at s) (moment s) (last_depth s) x from to (omega arith))

pub pair_listed :
    (s : Section) (x : ℕ) → 1 ≤ x → x < last_depth s
    → ((pos 0 <ℤ imbalance s x) × (imbalance s (x + 1) <ℤ pos 0)) ⊎ ((imbalance s x <ℤ pos 0) × (pos 0 <ℤ imbalance s (x + 1)))
    → Memᴰ (record { depth = x; kind = 2; moment = moment s x }) (listed s)
pair_listed s x from to k = listed_as s x 1 from (omega arith) (kind_two s x to (⊎_elim (λ p. falls p.0 p.1) (λ p. rises p.0 p.1) k))

-- ---- 3. a depth whose imbalance is zero is listed, the last depth too
pub zero_listed :
    (s : Section) (x : ℕ) → 1 ≤ x → x ≤ last_depth s → imbalance s x ≡ pos 0
    → Memᴰ (record { depth = x; kind = 1; moment = moment s x }) (listed s)
zero_listed s x from to e = listed_as s x 0 from to (kind_one s x e)

pub last_zero_listed :
    (s : Section) → section_refusal s ≡ 0 → imbalance s (last_depth s) ≡ pos 0
    → Memᴰ (record { depth = last_depth s; kind = 1; moment = moment s (last_depth s) }) (listed s)
last_zero_listed s ok = zero_listed s (last_depth s) (omega (arith, (accepted s ok).sizes.1.0)) (omega arith)

-- ---- 4. the first that is listed is the shallowest that balances
deeper : (low : ℕ) (es : List Entry) → Rising low es → {e : Entry} → Memᴰ e es → low < e.depth
deeper low [] r w = elim w [ ]
deeper low (f ∷ es) r (Memᴰ.head e) = omega (arith, r.0, ap (λ v. v.depth) e)
deeper low (f ∷ es) r (Memᴰ.tail w) = omega (arith, r.0, deeper f.depth es r.1 w)

first_least : (es : List Entry) → Rising 0 es → {e : Entry} → Memᴰ e es → (entry_of es 0).depth ≤ e.depth
first_least [] r w = elim w [ ]
first_least (f ∷ es) r (Memᴰ.head e) = omega (arith, ap (λ v. v.depth) e)
first_least (f ∷ es) r (Memᴰ.tail w) = omega (arith, deeper f.depth es r.1 w)

pub first_balances : (s : Section) → 0 < length (listed s) → Balances s (entry_of (listed s) 0)
first_balances s some = (listed_exactly s _).0 (at_place (listed s) 0 some)

pub first_shallowest : (s : Section) → 0 < length (listed s) → (x : ℕ) → 1 ≤ x → x < (entry_of (listed s) 0).depth → kind_at s x ≡ 0
first_shallowest s some x from to =
    let inside = (first_balances s some).to in
    ⊎_elim (λ z. z)
    (λ kind. absurd (omega (arith, first_least (listed s) (listed_rising s) (list_all (kind_at s) (moment s) (last_depth s) x from (omega arith) kind))))
    (eq-zero-or-pos (kind_at s x))

-- ---- 5. what balances has kind 1 or 2, and the last depth that is looked at for it is on the grid
module _ (s : Section) {e : Entry} (b : Balances s e) where
  pub one_or_two : (e.kind ≡ 1) ⊎ (e.kind ≡ 2)
  one_or_two =
      ⊎_elim (λ two. inr two) (λ less. inl (omega (arith, b.some)))
      (eq-or-lt_of_le {n = e.kind} {m = 2} (omega (arith, b.kind, kind_most s e.depth)))

  pub looked_inside : last_looked e.depth e.kind ≤ last_depth s
  looked_inside =
      ⊎_elim (λ one. rw one b.to) (λ two. rw two (omega (arith, two_inside s e.depth (omega (arith, b.kind))))) one_or_two
