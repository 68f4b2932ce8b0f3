-- Nodes that are made one after another in a loop, by what the tables so far leave.
use Rattle.std.proofs.Common.{◌≡◌, ◌∙◌, List, [], sym, ap, append_assoc, append-nil, subst}
use Rattle.rst_tree.specs.declared.node.Node.{Node}
use Rattle.rst_transform_contents.specs.declared.entries.Tables.{Tables}
use Rattle.rst_transform_contents.specs.Contents.{after_nodes, Becomes}
use Rattle.rst_transform_contents.specs.Entries.{Gives, Holds, Left}

-- some nodes were made; with what is made of those that are left they are what is made of all
pub record Threads (whole rest : Left → List Node × Left) (before now : Tables) (put : List Node) : Type 0 where
  pub at : (left : Left) → Holds before left → (mid : Left) × Holds now mid × (after_nodes put (rest mid) ≡ whole left)

pub threads_init : (whole : Left → List Node × Left) (tables : Tables) (put : List Node) → put ≡ [] → Threads whole whole tables tables put
threads_init whole tables put none = record { at = λ left h. (left, h, ap (λ ns. after_nodes ns (whole left)) none) }

-- one more
pub threads_more : (whole rest next own : Left → List Node × Left) (before now later : Tables) (put more : List Node) → Threads whole rest before now put
    → ((left : Left) → rest left ≡ after_nodes (own left).0 (next (own left).1)) → Becomes own now later put more → Threads whole next before later more
threads_more whole rest next own before now later put more t step one =
    record {
      at = λ left h.
          let mid = t.at left h in
          let done = one mid.0 mid.1 in (
            (own mid.0).1,
            done.1,
            ap (λ ns. after_nodes ns (next (own mid.0).1)) done.0 ∙ ap (λ ns. (ns, (next (own mid.0).1).1)) (append_assoc put (own mid.0).0 (next (own mid.0).1).0) ∙ ap (after_nodes put) (sym (step mid.0)) ∙ mid.2,
          );
    }

-- all
pub threads_all : (whole rest : Left → List Node × Left) (before now : Tables) (put : List Node) → Threads whole rest before now put → ((left : Left) → rest left ≡ ([], left)) → Gives whole before now put
threads_all whole rest before now put t none left h =
    let mid = t.at left h in
    let e : (put, mid.0) ≡ whole left = ap (λ ns. (ns, mid.0)) (sym (append-nil put)) ∙ ap (after_nodes put) (sym (none mid.0)) ∙ mid.2 in
    (ap (λ done. done.0) e, subst (Holds now) (ap (λ done. done.1) e) mid.1)
