-- What one production adds to the sets.
use Rattle.std.proofs.Common.{◌≡◌, ℕ, ◌<◌, Bool, true, false, not, ◌&&◌, ◌||◌, eqb, List, [], ◌∷◌, ◌++◌, length, get_or, set, sym, refl, ap, ◌∙◌, ap₂}
use mathlib.Core.Bool.{beq, or_assoc, or_comm, or-false}
use Rattle.std.specs.Cmp.{booleans_Decides}
use Rattle.std.proofs.lemmas.Bool.{and_from, and_left, and_parts, and_right, eq-eqb, eqb-false, eqb-true, ne_eqb, not-false, not-true, or_left, true≢false}
use Rattle.std.proofs.lemmas.List.{get_or_default}
use Rattle.table.specs.declared.drafts.Item.{Item}
use Rattle.table.specs.declared.drafts.Item.TheVariants.{Kind, Nonterminal, Check}
use Rattle.table.specs.declared.drafts.Operation.{Operation}
use Rattle.table.specs.Kinds.{has}
use Rattle.sets.specs.declared.runs.Run.{Run}
use Rattle.sets.specs.declared.words.Known.{Known}
use Rattle.sets.specs.declared.words.SetWords.{SetWords}
use Rattle.sets.specs.Rounds.{Grown, from_left, with_first, with_follow}
use Rattle.sets.specs.Rules.{Family, run_empty, run_first, run_inside, run_last}
use Rattle.sets.specs.Words.{held, nothing, Tells}
use Rattle.sets.proofs.Growing.{at_each, grown_at, grown_none, grown_then}

pub same_family : (s t : Family) → ((a : ℕ) → s.empty a ≡ t.empty a) → ((a k : ℕ) → s.first a k ≡ t.first a k)
    → ((a k : ℕ) → s.follow a k ≡ t.follow a k) → s ≡ t
same_family s t e f l = λ i. record { empty = λ a. e a i; first = λ a k. f a k i; follow = λ a k. l a k i }

at_same : (t u : Bool) (a : ℕ) → (t || u) ≡ (t || (eqb a a && u))
at_same t u a = ap (λ b. t || (b && u)) (sym (eq-eqb a a refl))

at_other : (t u : Bool) (a b : ℕ) → (a ≡ b → ⊥) → t ≡ (t || (eqb a b && u))
at_other t u a b ne = sym (or-false t) ∙ ap (λ c. t || (c && u)) (sym (ne_eqb a b ne))

-- what is read of nonterminal a is what is known, whatever would be read past the last one
module _ (s : Family) (v : SetWords) (by : ℕ → ℕ → Bool) (a : ℕ) (r : Known) (h : a < length v.nonterminals) (e : held v ≡ with_follow s by) where
  pub empty_at : (get_or v.nonterminals a r).empty ≡ s.empty a
  empty_at = ap (λ n. n.empty) (get_or_default v.nonterminals a r nothing h) ∙ ap (λ t. t.empty a) e

  pub first_at : (k : ℕ) → has (get_or v.nonterminals a r).first k ≡ s.first a k
  first_at k = ap (λ n. has n.first k) (get_or_default v.nonterminals a r nothing h) ∙ ap (λ t. t.first a k) e

pub follow_read : (v : SetWords) (a : ℕ) (r : Known) → a < length v.nonterminals → (k : ℕ) → has (get_or v.nonterminals a r).follow k ≡ (held v).follow a k
follow_read v a r h k = ap (λ n. has n.follow k) (get_or_default v.nonterminals a r nothing h)

-- `==` of what is known
abbrev known_eq : Known → Known → Bool
known_eq n m = beq n.empty m.empty && (eqb n.first m.first && eqb n.follow m.follow)

known_eq-true : (n m : Known) → known_eq n m ≡ true → n ≡ m
known_eq-true n m h =
    let (empty, rest) = and_parts _ _ h in
    let (first, follow) = and_parts _ _ rest in
    let e : n.empty ≡ m.empty = (booleans_Decides n.empty m.empty).0 empty in
    let f = eqb-true _ _ first in
    let l = eqb-true _ _ follow in
    λ i. record { empty = e i; first = f i; follow = l i }

known_eq-same : (n : Known) → known_eq n n ≡ true
known_eq-same n = and_from _ _ ((booleans_Decides n.empty n.empty).1 refl) (and_from _ _ (eq-eqb n.first n.first refl) (eq-eqb n.follow n.follow refl))

spread : (x l f : Bool) → (((x && true) || l) && f) ≡ ((l && f) || (x && f))
spread true true true = refl
spread true true false = refl
spread true false true = refl
spread true false false = refl
spread false true true = refl
spread false true false = refl
spread false false true = refl
spread false false false = refl

module _ (v : SetWords) (a : ℕ) (r : Known) where
  -- with another Follow set for nonterminal a
  abbrev pub grow_follow : ℕ → a < length v.nonterminals → SetWords
  grow_follow f h = record {
    nonterminals = set v.nonterminals a (record { empty = (get_or v.nonterminals a r).empty; first = (get_or v.nonterminals a r).first; follow = f });
  }

  module _ (f : ℕ) (h : a < length v.nonterminals) where
    same : get_or v.nonterminals a r ≡ get_or v.nonterminals a nothing
    same = get_or_default v.nonterminals a r nothing h

    pub put_follow : (more : ℕ → Bool) → ((k : ℕ) → has f k ≡ (has (get_or v.nonterminals a r).follow k || more k))
        → held (grow_follow f h) ≡ with_follow (held v) (λ b k. eqb a b && more k)
    put_follow more follow = same_family _ _
        (at_each (λ b n. n.empty ≡ (held v).empty b) v.nonterminals a _ h (ap (λ n. n.empty) same) (λ b ne. refl))
        (at_each (λ b n. (k : ℕ) → has n.first k ≡ (held v).first b k) v.nonterminals a _ h (λ k. ap (λ n. has n.first k) same) (λ b ne k. refl))
        (at_each (λ b n. (k : ℕ) → has n.follow k ≡ ((held v).follow b k || (eqb a b && more k))) v.nonterminals a _ h
        (λ k. follow k ∙ ap (λ n. has n.follow k || more k) same ∙ at_same _ _ a) (λ b ne k. at_other _ _ a b ne))

    -- this has grown if `new` says so, and else nothing changed
    pub grown_follow : (new : Bool) → ((k : ℕ) → has (get_or v.nonterminals a r).follow k ≡ true → has f k ≡ true)
        → new ≡ not (eqb f (get_or v.nonterminals a r).follow) → Grown new v (grow_follow f h)
    grown_follow new more is = grown_at v a _ new h
        (record { empty = λ e. ap (λ n. n.empty) same ∙ e; first = λ k e. ap (λ n. has n.first k) same ∙ e; follow = λ k e. more k (ap (λ n. has n.follow k) same ∙ e) })
        (λ no. let stays = eqb-true _ _ (not-false _ (sym is ∙ no)) in
        (λ i. record { empty = (get_or v.nonterminals a r).empty; first = (get_or v.nonterminals a r).first; follow = stays i }) ∙ same)
        (λ yes stays. eqb-false _ _ (not-true _ (sym is ∙ yes)) (ap (λ n. n.follow) (stays ∙ sym same)))

  -- with what a run tells
  module _ (run : Run) (f : ℕ) (h : a < length v.nonterminals) (joins : (k : ℕ) → has f k ≡ (has (get_or v.nonterminals a r).first k || has run.kinds k)) where
    abbrev pub now_known : Known
    now_known = record { empty = (get_or v.nonterminals a r).empty || run.empty; first = f; follow = (get_or v.nonterminals a r).follow }

    known_is : get_or v.nonterminals a r ≡ get_or v.nonterminals a nothing
    known_is = get_or_default v.nonterminals a r nothing h

    pub put_first : (is : List Item) → Tells (held v) is run → held (record { nonterminals = set v.nonterminals a now_known }) ≡ with_first (held v) a is
    put_first is tells = same_family _ _
        (at_each (λ b n. n.empty ≡ ((held v).empty b || (eqb a b && run_empty (held v) is))) v.nonterminals a _ h
        (ap₂ (λ n t. n.empty || t) known_is tells.empty ∙ at_same _ _ a) (λ b ne. at_other _ _ a b ne))
        (at_each (λ b n. (k : ℕ) → has n.first k ≡ ((held v).first b k || (eqb a b && run_first (held v) is k))) v.nonterminals a _ h
        (λ k. joins k ∙ ap₂ (λ n t. has n.first k || t) known_is (tells.kinds k) ∙ at_same _ _ a) (λ b ne k. at_other _ _ a b ne))
        (at_each (λ b n. (k : ℕ) → has n.follow k ≡ (held v).follow b k) v.nonterminals a _ h (λ k. ap (λ n. has n.follow k) known_is) (λ b ne k. refl))

    pub grown_first : (new : Bool) → new ≡ not (known_eq now_known (get_or v.nonterminals a r)) → Grown new v (record { nonterminals = set v.nonterminals a now_known })
    grown_first new is = grown_at v a now_known new h
        (record { empty = λ e. or_left _ _ (ap (λ n. n.empty) known_is ∙ e); first = λ k e. joins k ∙ or_left _ _ (ap (λ n. has n.first k) known_is ∙ e); follow = λ k e. ap (λ n. has n.follow k) known_is ∙ e })
        (λ no. known_eq-true now_known (get_or v.nonterminals a r) (not-false _ (sym is ∙ no)) ∙ known_is)
        (λ yes stays. true≢false
        (sym yes ∙ is ∙ ap (λ n. not (known_eq n (get_or v.nonterminals a r))) (stays ∙ sym known_is) ∙ ap not (known_eq-same (get_or v.nonterminals a r))))

-- more on top of what was added
pub joined : (s : Family) (by more all : ℕ → ℕ → Bool) → ((a k : ℕ) → all a k ≡ (by a k || more a k)) → with_follow (with_follow s by) more ≡ with_follow s all
joined s by more all e =
    same_family _ _ (λ a. refl) (λ a k. refl) (λ a k. or_assoc (s.follow a k) (by a k) (more a k) ∙ ap (λ y. s.follow a k || y) (sym (e a k)))

-- what begins a run, and what stands inside it, are the same whatever Follow sets there are
module _ (s : Family) (by : ℕ → ℕ → Bool) where
  run_empty_same : (is : List Item) → run_empty (with_follow s by) is ≡ run_empty s is
  run_empty_same [] = refl
  run_empty_same (Kind j ∷ is) = refl
  run_empty_same (Nonterminal a o ∷ is) = ap (λ b. s.empty a && b) (run_empty_same is)
  run_empty_same (Check o ∷ is) = run_empty_same is

  run_first_same : (is : List Item) (k : ℕ) → run_first (with_follow s by) is k ≡ run_first s is k
  run_first_same [] k = refl
  run_first_same (Kind j ∷ is) k = refl
  run_first_same (Nonterminal a o ∷ is) k = ap (λ b. s.first a k || (s.empty a && b)) (run_first_same is k)
  run_first_same (Check o ∷ is) k = run_first_same is k

  pub run_inside_same : (is : List Item) (a k : ℕ) → run_inside (with_follow s by) is a k ≡ run_inside s is a k
  run_inside_same [] a k = refl
  run_inside_same (Kind j ∷ is) a k = run_inside_same is a k
  run_inside_same (Nonterminal b o ∷ is) a k = ap₂ ◌||◌ (ap (λ x. eqb b a && x) (run_first_same is k)) (run_inside_same is a k)
  run_inside_same (Check o ∷ is) a k = run_inside_same is a k

-- the items passed from the back are done: what they can begin with is known, and the Follow sets have what it gives
pub record DoneInside (s : Family) (after : ℕ) (t : Family) (passed : List Item) : Type 0 where
  pub begins : (k : ℕ) → has after k ≡ run_first s passed k
  pub followed : t ≡ with_follow s (run_inside s passed)

-- at a nonterminal, whose Follow set becomes f
module _ (s : Family) (v : SetWords) (after : ℕ) (passed : List Item) (d : DoneInside s after (held v) passed) (b : ℕ) (o : Operation) (r : Known) (f : ℕ)
    (h : b < length v.nonterminals) (follow : (k : ℕ) → has f k ≡ (has (get_or v.nonterminals b r).follow k || has after k)) where
  followed : held (grow_follow v b r f h) ≡ with_follow s (run_inside s (Nonterminal b o ∷ passed))
  followed =
      put_follow v b r f h (has after) follow ∙ ap (λ t. with_follow t (λ a k. eqb b a && has after k)) d.followed
      ∙ joined s (run_inside s passed) (λ a k. eqb b a && has after k) _
      (λ a k. or_comm (eqb b a && run_first s passed k) (run_inside s passed a k) ∙ ap (λ y. run_inside s passed a k || (eqb b a && y)) (sym (d.begins k)))

  pub done_past : (both : ℕ) → ((k : ℕ) → has both k ≡ (has (get_or v.nonterminals b r).first k || has after k)) → (get_or v.nonterminals b r).empty ≡ true
      → DoneInside s both (held (grow_follow v b r f h)) (Nonterminal b o ∷ passed)
  done_past both begins e = record {
    begins = λ k.
        begins k
        ∙ ap₂ ◌||◌ (first_at s v _ b r h d.followed k) (d.begins k ∙ ap (λ y. y && run_first s passed k) (sym e ∙ empty_at s v _ b r h d.followed));
    followed = followed;
  }

  pub done_at : (get_or v.nonterminals b r).empty ≡ false → DoneInside s (get_or v.nonterminals b r).first (held (grow_follow v b r f h)) (Nonterminal b o ∷ passed)
  done_at e = record {
    begins = λ k.
        first_at s v _ b r h d.followed k ∙ sym (or-false (s.first b k))
        ∙ ap (λ y. s.first b k || (y && run_first s passed k)) (sym e ∙ empty_at s v _ b r h d.followed);
    followed = followed;
  }

-- the items passed from the back can all be empty, and the Follow sets have what that gives
pub record DoneLast (v : SetWords) (left : ℕ) (grown : Bool) (w : SetWords) (passed : List Item) : Type 0 where
  pub empty : run_empty (held v) passed ≡ true
  pub followed : held w ≡ with_follow (held v) (from_left (held v) left passed)
  pub growth : Grown grown v w

pub last_none : (v : SetWords) (left : ℕ) → DoneLast v left false v []
last_none v left = record {
  empty = refl;
  followed = same_family _ _ (λ a. refl) (λ a k. refl) (λ a k. sym (or-false ((held v).follow a k)));
  growth = grown_none v;
}

-- at a nonterminal, whose Follow set becomes f, which is new if `new` says so
module _ (v w : SetWords) (left : ℕ) (grown : Bool) (passed : List Item) (d : DoneLast v left grown w passed) (b : ℕ) (o : Operation) (q r : Known) (f : ℕ) (new : Bool)
    (here : left < length v.nonterminals) (h : b < length w.nonterminals)
    (joins : (k : ℕ) → has f k ≡ (has (get_or w.nonterminals b r).follow k || has (get_or v.nonterminals left q).follow k))
    (is : new ≡ not (eqb f (get_or w.nonterminals b r).follow)) where
  follow : (k : ℕ) → has f k ≡ (has (get_or w.nonterminals b r).follow k || (held v).follow left k)
  follow k = joins k ∙ ap (λ t. has (get_or w.nonterminals b r).follow k || t) (follow_read v left q here k)

  pub last_followed : held (grow_follow w b r f h) ≡ with_follow (held v) (from_left (held v) left (Nonterminal b o ∷ passed))
  last_followed =
      put_follow w b r f h ((held v).follow left) follow ∙ ap (λ t. with_follow t (λ a k. eqb b a && (held v).follow left k)) d.followed
      ∙ joined (held v) (from_left (held v) left passed) (λ a k. eqb b a && (held v).follow left k) _
      (λ a k. ap (λ x. ((eqb b a && x) || run_last (held v) passed a) && (held v).follow left k) d.empty
      ∙ spread (eqb b a) (run_last (held v) passed a) ((held v).follow left k))

  pub last_growth : Grown (grown || new) v (grow_follow w b r f h)
  last_growth = grown_then grown new v w _ d.growth (grown_follow w b r f h new (λ k e. follow k ∙ or_left _ _ e) is)

  pub last_past : (get_or w.nonterminals b r).empty ≡ true → DoneLast v left (grown || new) (grow_follow w b r f h) (Nonterminal b o ∷ passed)
  last_past e = record { empty = and_from _ _ (sym (empty_at (held v) w _ b r h d.followed) ∙ e) d.empty; followed = last_followed; growth = last_growth }

  pub last_not_empty : (get_or w.nonterminals b r).empty ≡ false → run_empty (held v) (Nonterminal b o ∷ passed) ≡ false
  last_not_empty e = and_left _ _ (sym (empty_at (held v) w _ b r h d.followed) ∙ e)

-- before items that cannot all be empty, nothing is last
module _ (s : Family) (left : ℕ) (rest : List Item) (stop : run_empty s rest ≡ false) where
  not_empty : (front : List Item) → run_empty s (front ++ rest) ≡ false
  not_empty [] = stop
  not_empty (Kind k ∷ front) = refl
  not_empty (Nonterminal a o ∷ front) = and_right (s.empty a) _ (not_empty front)
  not_empty (Check o ∷ front) = not_empty front

  last_stops : (front : List Item) (a : ℕ) → run_last s (front ++ rest) a ≡ run_last s rest a
  last_stops [] a = refl
  last_stops (Kind k ∷ front) a = last_stops front a
  last_stops (Nonterminal b o ∷ front) a = ap (λ x. x || run_last s (front ++ rest) a) (and_right (eqb b a) _ (not_empty front)) ∙ last_stops front a
  last_stops (Check o ∷ front) a = last_stops front a

  pub last_stopped : (is front : List Item) (t : Family) → is ≡ front ++ rest → t ≡ with_follow s (from_left s left rest) → t ≡ with_follow s (from_left s left is)
  last_stopped is front t are followed = followed ∙ same_family _ _ (λ a. refl) (λ a k. refl)
      (λ a k. ap (λ x. s.follow a k || (x && s.follow left k)) (sym (ap (λ js. run_last s js a) are ∙ last_stops front a)))
