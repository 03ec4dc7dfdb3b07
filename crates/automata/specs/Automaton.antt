-- A register automaton over natural-number identifiers (source 001, section 2). All numbers count from 1.
-- Assumes nothing.
use Rattle.std.specs.Prelude.{ℕ, Bool, not, cond, List, eqb}
use Rattle.graphs.specs.Lists.{item}

pub data Term : Type 0 where
  register : ℕ → Term
  parameter : ℕ → Term
  constant : ℕ → Term

-- two terms are equal, or different
pub record Condition : Type 0 where
  pub left : Term
  pub equal : Bool
  pub right : Term

pub record Assignment : Type 0 where
  pub register : ℕ
  pub source : Term

-- an arc of document 01
pub record Transition : Type 0 where
  pub from : ℕ
  pub action : ℕ
  pub to : ℕ
  pub guard : List Condition
  pub assigns : List Assignment

-- a table of document 01: locations are its places
pub record Automaton : Type 0 where
  pub registers : ℕ
  pub constants : List ℕ
  pub locations : ℕ
  pub arities : List ℕ
  pub start : ℕ
  pub starting : List Condition
  pub transitions : List Transition

-- the number of parameters of a transition's action
abbrev pub arity : Automaton → Transition → ℕ
arity a t = item a.arities t.action

-- the value of a term under constants, contents and parameters
abbrev pub value : List ℕ → List ℕ → List ℕ → Term → ℕ
value cs v ps (register i) = item v i
value cs v ps (parameter i) = item ps i
value cs v ps (constant i) = item cs i

-- the condition holds: its terms have equal values, or different ones, as it says
abbrev pub meets : List ℕ → List ℕ → List ℕ → Condition → Bool
meets cs v ps c =
    let alike : Bool = eqb (value cs v ps c.left) (value cs v ps c.right) in
    cond c.equal alike (not alike)

-- the new contents w hold the old value of the assigned term; a register that is not assigned is free
abbrev pub assigned : List ℕ → List ℕ → List ℕ → List ℕ → Assignment → Bool
assigned cs v ps w s = eqb (item w s.register) (value cs v ps s.source)
