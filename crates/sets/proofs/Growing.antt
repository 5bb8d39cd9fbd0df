-- Sets that grow, and not for ever.
use Rattle.std.proofs.Common.{◌≡◌, ℕ, ◌+◌, ◌-◌, ◌*◌, ◌^◌, ◌<◌, ◌≤◌, Bool, true, false, ◌||◌, List, length, get_or, set, sym, refl, ap, ◌∙◌, subst, inl, inr, arith, length-set, get_or-set_other, get_or-set_same}
use lib.Seq.{set-get_or}
use Rattle.std.proofs.ByRecursion.{All-from_get_or, sum_by_le}
use Rattle.std.proofs.lemmas.List.Sums.{sum_by-set}
use Rattle.std.proofs.lemmas.Bool.{cases_eq, cases_lt, true≢false, or_parts}
use Rattle.table.specs.Grammar.{Production}
use Rattle.table.specs.Kinds.{has}
use Rattle.sets.specs.declared.words.Known.{Known}
use Rattle.sets.specs.declared.words.SetWords.{SetWords}
use Rattle.sets.specs.Bounds.{Small, SmallProduction}
use Rattle.sets.specs.Rounds.{Grown, Sound, one_if, weight, weight_of}
use Rattle.sets.specs.Rules.{Family, Within}
use Rattle.sets.specs.Words.{held, nothing}
use Rattle.sets.proofs.Bits.{below_power, bits_below, bits_le}
use Rattle.sets.proofs.Limits.{all_at, first_below, follow_below}

-- what holds of x at place a, and at the other places of what stands there, holds at each once x stands at a
pub at_each : (P : ℕ → Known → Type 0) (ns : List Known) (a : ℕ) (x : Known) → a < length ns → P a x
    → ((b : ℕ) → (a ≡ b → ⊥) → P b (get_or ns b nothing)) → (b : ℕ) → P b (get_or (set ns a x) b nothing)
at_each P ns a x h here others b = elim (cases_eq a b) [
  | inl e ↦ subst (λ c. P c (get_or (set ns a x) c nothing)) e (subst (P a) (sym (get_or-set_same ns a x nothing h)) here)
  | inr ne ↦ subst (P b) (sym (get_or-set_other ns a b x nothing (λ e. ne (sym e)))) (others b ne)
]

pub within_none : (s : Family) → Within s s
within_none s = record { empty = λ a h. h; first = λ a k h. h; follow = λ a k h. h }

pub within_then : (s t u : Family) → Within s t → Within t u → Within s u
within_then s t u one two = record {
  empty = λ a h. two.empty a (one.empty a h);
  first = λ a k h. two.first a k (one.first a k h);
  follow = λ a k h. two.follow a k (one.follow a k h);
}

pub grown_none : (w : SetWords) → Grown false w w
grown_none w = record { long = refl; same = λ e. refl; more = λ e. absurd (true≢false (sym e)); within = within_none _ }

-- what grew before or grows now has grown
pub grown_then : (r q : Bool) (u v w : SetWords) → Grown r u v → Grown q v w → Grown (r || q) u w
grown_then r q u v w before now = record {
  long = now.long ∙ before.long;
  same = λ e. let (before_same, now-same) = or_parts r q e in now.same now-same ∙ before.same before_same;
  more = λ e. more r q before.same before.more now.same now.more e;
  within = within_then _ _ _ before.within now.within;
}
  where
    more : (r q : Bool) → (r ≡ false → v ≡ u) → (r ≡ true → weight u < weight v) → (q ≡ false → w ≡ v) → (q ≡ true → weight v < weight w)
        → (r || q) ≡ true → weight u < weight w
    more true true s m t n e = let a = m refl in let b = n refl in omega arith
    more true false s m t n e = let a = m refl in let b = ap weight (t refl) in omega arith
    more false true s m t n e = let a = ap weight (s refl) in let b = n refl in omega arith
    more false false s m t n e = absurd (true≢false (sym e))

-- what n knows of a nonterminal, x knows too
pub record Above (n x : Known) : Type 0 where
  pub empty : n.empty ≡ true → x.empty ≡ true
  pub first : (k : ℕ) → has n.first k ≡ true → has x.first k ≡ true
  pub follow : (k : ℕ) → has n.follow k ≡ true → has x.follow k ≡ true

one_if_le : (a b : Bool) → (a ≡ true → b ≡ true) → one_if a ≤ one_if b
one_if_le true true h = omega arith
one_if_le true false h = absurd (true≢false (sym (h refl)))
one_if_le false b h = omega arith

one_if_same : (a b : Bool) → one_if a ≡ one_if b → a ≡ b
one_if_same true true h = refl
one_if_same true false h = let no : ⊥ = omega (arith, h) in absurd no
one_if_same false true h = let no : ⊥ = omega (arith, h) in absurd no
one_if_same false false h = refl

one_if_small : (a : Bool) → one_if a ≤ 1
one_if_small true = omega arith
one_if_small false = omega arith

heavier : (n x : Known) → Above n x → (x ≡ n → ⊥) → weight_of n < weight_of x
heavier n x above differ =
    let empty = one_if_le n.empty x.empty above.empty in
    let first = bits_le n.first n.first x.first (below_power n.first) above.first in
    let follow = bits_le n.follow n.follow x.follow (below_power n.follow) above.follow in
    elim (cases_lt (weight_of n) (weight_of x)) [
      | inl more ↦ more
      | inr less ↦
          let e : x.empty ≡ n.empty = one_if_same _ _ (omega arith) in
          let f : x.first ≡ n.first = omega arith in
          let l : x.follow ≡ n.follow = omega arith in
          absurd (differ (λ i. record { empty = e i; first = f i; follow = l i }))
    ]

-- where x stands at a, which knows more than what stood there if `grown` says so, and else is the same
pub grown_at : (v : SetWords) (a : ℕ) (x : Known) (grown : Bool) → a < length v.nonterminals → Above (get_or v.nonterminals a nothing) x
    → (grown ≡ false → x ≡ get_or v.nonterminals a nothing) → (grown ≡ true → x ≡ get_or v.nonterminals a nothing → ⊥)
    → Grown grown v (record { nonterminals = set v.nonterminals a x })
grown_at v a x grown h above same differ = record {
  long = length-set v.nonterminals a x;
  same = λ e. let one = ap (set v.nonterminals a) (same e) ∙ set-get_or v.nonterminals a nothing in λ i. record { nonterminals = one i };
  more = λ e. let sums = sum_by-set weight_of v.nonterminals a x nothing h in let more = heavier _ x above (differ e) in omega arith;
  within = record {
    empty = at_each (λ b n. (held v).empty b ≡ true → n.empty ≡ true) v.nonterminals a x h above.empty (λ b ne e. e);
    first = at_each (λ b n. (k : ℕ) → (held v).first b k ≡ true → has n.first k ≡ true) v.nonterminals a x h above.first (λ b ne k e. e);
    follow = at_each (λ b n. (k : ℕ) → (held v).follow b k ≡ true → has n.follow k ≡ true) v.nonterminals a x h above.follow (λ b ne k e. e);
  };
}

-- what the sets have room for yet
pub room : SetWords → ℕ
room w = 1 + length w.nonterminals * (2 ^ 65 - 1) - weight w

-- sets that hold only what the rules define are of kinds below 64, so that they cannot grow for ever
pub grows : (g : List Production) (v w : SetWords) → Small g → Sound g (held v) → Grown true v w → room w < room v
unfolding room
grows g v w small sound growth =
    let light = sum_by_le weight_of (2 ^ 65 - 1) v.nonterminals (All-from_get_or (λ n. weight_of n ≤ 2 ^ 65 - 1) v.nonterminals nothing (λ a h.
    let empty = one_if_small (get_or v.nonterminals a nothing).empty in
    let first = bits_below 64 (get_or v.nonterminals a nothing).first (λ k e. let c = sound.first a k e in first_below g small c.items (all_at SmallProduction c.stands small).1) in
    let follow = bits_below 64 (get_or v.nonterminals a nothing).follow (λ k e. follow_below g small (sound.follow a k e)) in
    omega arith)) in
    let more = growth.more refl in
    let long = growth.long in
    omega arith
