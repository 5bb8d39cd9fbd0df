-- The sets that the rounds end with are those that the rules define.
use Rattle.std.proofs.Common.{◌≡◌, ℕ, zero, suc, false, ◌&&◌, eqb, List, get_or, set, replicate, sym, refl, ap, ◌∙◌, subst, subst₂, lit<}
use Rattle.std.proofs.lemmas.Bool.{false≢true, and_parts, eqb-true, ne_eqb}
use Rattle.table.specs.Kinds.{has}
use Rattle.sets.specs.declared.words.Known.{Known}
use Rattle.sets.specs.Words.{held, nothing}
use Rattle.table.proofs.Bits.{bit_zero}
use Rattle.sets.proofs.Following.{same_family}
use Rattle.table.specs.Grammar.{Production}
use Rattle.sets.specs.Rounds.{Sound, beginning}
use Rattle.sets.specs.Rules.{Family, Everywhere, EmptyRule, FirstRule, InsideRule, LastRule, Meets, Within}
use Rattle.sets.specs.Sets.{Follow, end_mark}
use Rattle.sets.proofs.Growing.{at_each, within_then}
use Rattle.sets.proofs.Smallest.{empty_in, first_in, inside_in, empty_out, first_out, inside_out}

-- past the copies of x too, x is read
pub get_or-replicated : {X : Type 0} (x : X) (count a : ℕ) → get_or (replicate count x) a x ≡ x
get_or-replicated x zero a = refl
get_or-replicated x (suc count) zero = refl
get_or-replicated x (suc count) (suc a) = get_or-replicated x count a

pub begins : (n : Known) (end : ℕ) → n ≡ nothing → ((k : ℕ) → has end k ≡ eqb end_mark k)
    → held (record { nonterminals = set (replicate 64 n) 0 (record { empty = n.empty; first = n.first; follow = end }) }) ≡ beginning
begins n end none only = same_family _ _
    (at_each (λ b m. m.empty ≡ false) (replicate 64 n) 0 _ (lit< tt) (ap (λ m. m.empty) none) (λ b ne. ap (λ m. m.empty) (empty b)))
    (at_each (λ b m. (k : ℕ) → has m.first k ≡ false) (replicate 64 n) 0 _ (lit< tt) (λ k. ap (λ m. has m.first k) none ∙ bit_zero k)
    (λ b ne k. ap (λ m. has m.first k) (empty b) ∙ bit_zero k))
    (at_each (λ b m. (k : ℕ) → has m.follow k ≡ (eqb 0 b && eqb end_mark k)) (replicate 64 n) 0 _ (lit< tt) only
    (λ b ne k. ap (λ m. has m.follow k) (empty b) ∙ bit_zero k ∙ ap (λ t. t && eqb end_mark k) (sym (ne_eqb 0 b ne))))
  where
    empty : (b : ℕ) → get_or (replicate 64 n) b nothing ≡ nothing
    empty b = ap (λ m. get_or (replicate 64 m) b nothing) none ∙ get_or-replicated nothing 64 b

pub sound_start : (g : List Production) (s : Family) → s ≡ beginning → Sound g s
sound_start g s e = subst (Sound g) (sym e) (record {
  empty = λ a h. absurd (false≢true h);
  first = λ a k h. absurd (false≢true h);
  follow = λ a k h. let (a-is, k-is) = and_parts _ _ h in subst₂ (Follow g) (eqb-true 0 a a-is) (eqb-true end_mark k k-is) Follow.at_end;
})

-- sets that grow, and hold only what the rules define, go on meeting rules
module _ (g : List Production) (s t : Family) (within : Within s t) (sound : Sound g t) (empty : Everywhere g (EmptyRule s)) where
  keeps_empty : Everywhere g (EmptyRule t)
  keeps_empty n p at h = within.empty p.left (empty n p at (empty_in g s empty (empty_out g t sound p.items h)))

  module _ (first : Everywhere g (FirstRule s)) where
    keeps_first : Everywhere g (FirstRule t)
    keeps_first n p at k h = within.first p.left k (first n p at k (first_in g s empty first (first_out g t sound p.items k h)))

    keeps_inside : Everywhere g (InsideRule s) → Everywhere g (InsideRule t)
    keeps_inside inside n p at a k h =
        let (post, stands, f) = inside_out g t sound a k p.items h in
        within.follow a k (inside n p at a k (inside_in s stands k (first_in g s empty first f)))

-- from the start, the sets are t with First settled, u with what comes inside the productions, and w in the end
pub settled : (g : List Production) (start t u w : Family) → start ≡ beginning → Within start t → Everywhere g (EmptyRule t) → Everywhere g (FirstRule t)
    → Within t u → Sound g u → Everywhere g (InsideRule u) → Within u w → Sound g w → Everywhere g (LastRule w) → Meets g w
settled g start t u w e grows empty first one sound_u inside two sound_w last =
    let empty_u = keeps_empty g t u one sound_u empty in
    let first_u = keeps_first g t u one sound_u empty first in
    record {
      empty = keeps_empty g u w two sound_w empty_u;
      first = keeps_first g u w two sound_w empty_u first_u;
      at_end = (within_then start u w (within_then start t u grows one) two).follow 0 end_mark (ap (λ s. s.follow 0 end_mark) e);
      inside = keeps_inside g u w two sound_w empty_u first_u inside;
      last = last;
    }
