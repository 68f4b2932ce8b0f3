-- The attributes of problematics and messages are in order.
use Rattle.std.proofs.Common.{◌≡◌, ℕ, true, List, refl}
use Rattle.std.specs.Prelude.{Option, Some, None}
use Rattle.rst_tree.specs.Attributes.{are_keys_in_order}
use Rattle.rst_transform_work.specs.Problematics.{problematic_attrs}
use Rattle.rst_transform_work.specs.Reports.{report_attrs}
use Rattle.rst_transform_work.specs.declared.report.Report.{Report}

pub problematic_in_order : (id : List ℕ) (message : Option (ℕ × List ℕ)) → are_keys_in_order (problematic_attrs id message) ≡ true
problematic_in_order id (Some message) = refl
problematic_in_order id None = refl

pub report_in_order : (r : Report) → are_keys_in_order (report_attrs r) ≡ true
report_in_order r = go r.id refl
  where
    go : (id : Option (List ℕ)) → r.id ≡ id → are_keys_in_order (report_attrs r) ≡ true
    go (Some id) e = rw e refl
    go None e = rw e refl
