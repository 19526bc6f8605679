-- Bytes that are written in several pieces.
use Rattle.std.proofs.Common.{◌≡◌, ℕ, ◌+◌, ◌-◌, List, [], ◌++◌, Option, Result, Ok, Err, OnErr, OnOk, sym, ap, ◌∙◌, arith, take, drop, length, subst, append_assoc, append-nil, take-append-drop}
use Rattle.std.proofs.Math.Seq.{take-add}
use Rattle.std.proofs.lemmas.Grind.{common_steps}
use Rattle.std.specs.Io.KnownBytes.{Appends, Keeps}
use Rattle.std.proofs.KnownBytes.{Appends-trans, Appends-kept}
use Rattle.qx_sh.specs.Written.{AppendsFront}

pub on_err : {T E : Type 0} (r : Result T E) (P : Type 0) → P → OnErr r P
on_err (Ok x) P p = tt
on_err (Err e) P p = p

-- the next piece of a text
pub appends_next : (a b c : Option (List ℕ)) (bytes : List ℕ) (i n : ℕ) → Appends a b (take i bytes) → Appends b c (take n (drop i bytes)) → Appends a c (take (i + n) bytes)
appends_next a b c bytes i n p q = subst (Appends a c) (sym (take-add i n bytes)) (Appends-trans a b c _ _ p q)

-- a front of the text is written, and then no more
pub front_kept : (a b c : Option (List ℕ)) (bytes : List ℕ) (i : ℕ) → Appends a b (take i bytes) → Keeps b c → AppendsFront a c bytes
front_kept a b c bytes i p q = record {
  front = take i bytes;
  rest = drop i bytes;
  parts = sym (take-append-drop i bytes);
  appends = Appends-kept a b c _ p q;
}

-- the whole text is a front of it
pub front_all : (a b : Option (List ℕ)) (bytes : List ℕ) → Appends a b bytes → AppendsFront a b bytes
front_all a b bytes p = record {
  front = bytes;
  rest = [];
  parts = sym (append-nil bytes);
  appends = p;
}

-- a front of the first piece is a front of the text
pub front_first : (a b : Option (List ℕ)) (first rest : List ℕ) → AppendsFront a b first → AppendsFront a b (first ++ rest)
front_first a b first rest p = record {
  front = p.front;
  rest = p.rest ++ rest;
  parts = ap (λ l. l ++ rest) p.parts ∙ append_assoc p.front p.rest rest;
  appends = p.appends;
}

-- the first piece is written, and a front of the second
pub front_second : (a b c : Option (List ℕ)) (first second : List ℕ) → Appends a b first → AppendsFront b c second → AppendsFront a c (first ++ second)
front_second a b c first second p q = record {
  front = first ++ q.front;
  rest = q.rest;
  parts = ap (λ l. first ++ l) q.parts ∙ sym (append_assoc first q.front q.rest);
  appends = Appends-trans a b c first q.front p q.appends;
}

-- the first piece is written, and the outcome of the second decides
pub whole_second : {T E : Type 0} (r : Result T E) (a b c : Option (List ℕ)) (first second : List ℕ)
    → Appends a b first → OnOk r (Appends b c second) → OnOk r (Appends a c (first ++ second))
whole_second (Ok x) a b c first second p q = Appends-trans a b c first second p q
whole_second (Err e) a b c first second p q = tt

pub front_last : {T E : Type 0} (r : Result T E) (a b c : Option (List ℕ)) (first second : List ℕ)
    → Appends a b first → OnErr r (AppendsFront b c second) → OnErr r (AppendsFront a c (first ++ second))
front_last (Ok x) a b c first second p q = tt
front_last (Err e) a b c first second p q = front_second a b c first second p q

pub rest_whole : (i : ℕ) (bytes : List ℕ) → take (length bytes - i) (drop i bytes) ≡ drop i bytes
rest_whole i bytes = grind (arith, common_steps)
