mod Posting
